-- A well-formed program with other nodes and other edges: its automaton stays, so only what these two change is to be shown.
use Prim.Native.Nat.{ℕ, ◌≤◌}
use mathlib.Core.Path.{◌≡◌}
use mathlib.Core.Bool.{true}
use mathlib.Core.List.{List, map}
use lib.ListN.{length}
use Rattle.tables.specs.Keys.{Ascending}
use Rattle.program.specs.Sizes.{max_edges}
use Rattle.program.specs.Program.{Edge, Program, nodes_fit, edge_fits}
use Rattle.program.specs.Chosen.{sizes_fit}
use Rattle.program.specs.Frames.{edge_key}
use Rattle.program.specs.WellFormed.{All, WellFormed}

module _ (p : Program) (w : WellFormed p) where
  abbrev other : List ℕ → List Edge → Program
  other ns es = record { routines = p.routines; nodes = ns; edges = es; automaton = p.automaton }

  pub other_nodes : (ns : List ℕ) (es : List Edge) → length ns ≡ p.routines → All nodes_fit ns → sizes_fit (other ns es) ≡ true → All (edge_fits (other ns es)) es
      → Ascending 0 (map edge_key es) → length es ≤ max_edges → WellFormed (other ns es)
  other_nodes ns es c n z f s l =
      record {
        counts-fit = w.counts-fit;
        complete = c;
        nodes-fit = n;
        edges_fit = f;
        edges_ascend = s;
        edges_limited = l;
        transitions_fit = w.transitions_fit;
        transitions_ascend = w.transitions_ascend;
        transitions_limited = w.transitions_limited;
        initial_fit = w.initial_fit;
        initial_ascend = w.initial_ascend;
        rejecting_fit = w.rejecting_fit;
        rejecting_ascend = w.rejecting_ascend;
        sized = z;
      }

  pub other_edges : (es : List Edge) → All (edge_fits p) es → Ascending 0 (map edge_key es) → length es ≤ max_edges → WellFormed (other p.nodes es)
  other_edges es = other_nodes p.nodes es w.complete w.nodes-fit w.sized
