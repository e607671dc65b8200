-- Well-formed programs, and the rows that a file may have: complete, in range, ascending, within the limits.
use Rattle.std.specs.Prelude.{◌≤◌, ◌≡◌, Bool, true, List, [], ◌∷◌, map, length, ltb}
use Rattle.tables.specs.Keys.{Ascending}
use Rattle.automaton.specs.Sizes.{max_transitions}
use Rattle.rows.specs.Rows.{max_rows, TableRow, row_fits}
use Rattle.program.specs.Sizes.{max_edges}
use Rattle.program.specs.Program.{Program, nodes_fit, counts_fit, edge_fits, transition_fits}
use Rattle.program.specs.Chosen.{sizes_fit}
use Rattle.program.specs.Frames.{edge_key, transition_key, row_key, initial_key, rejecting_key}

-- every element passes a test
unfoldable pub All : {A : Type 0} → (A → Bool) → List A → Type 0
All t [] = Unit
All t (x ∷ xs) = (t x ≡ true) × All t xs

pub record WellFormed (p : Program) : Type 0 where
  pub counts-fit : counts_fit p.routines p.automaton.states p.automaton.actions ≡ true
  pub complete : length p.nodes ≡ p.routines
  pub nodes-fit : All nodes_fit p.nodes
  pub edges_fit : All (edge_fits p) p.edges
  pub edges_ascend : Ascending 0 (map edge_key p.edges)
  pub edges_limited : length p.edges ≤ max_edges
  pub transitions_fit : All (transition_fits p) p.automaton.transitions
  pub transitions_ascend : Ascending 0 (map transition_key p.automaton.transitions)
  pub transitions_limited : length p.automaton.transitions ≤ max_transitions
  pub initial_fit : All (λ q. ltb q p.automaton.states) p.automaton.initial
  pub initial_ascend : Ascending 0 (map initial_key p.automaton.initial)
  pub rejecting_fit : All (λ q. ltb q p.automaton.states) p.automaton.rejecting
  pub rejecting_ascend : Ascending 0 (map rejecting_key p.automaton.rejecting)
  pub sized : sizes_fit p ≡ true

-- the rows of a file (paper: frames 55), where this is its program
pub record WellFormedRows (p : Program) (rs : List TableRow) : Type 0 where
  pub rows_fit : All (row_fits p.automaton) rs
  pub rows_ascend : Ascending 0 (map (row_key p.automaton.states) rs)
  pub rows_limited : length rs ≤ max_rows
