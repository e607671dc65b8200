-- A change that is not refused.
use Rattle.std.specs.Prelude.{◌+◌, ◌≤◌, ◌<◌, ◌≡◌, true, map, eqb, length}
use Rattle.tables.specs.Keys.{Ascending}
use Rattle.program.specs.Sizes.{max_edges}
use Rattle.program.specs.Program.{Program, nodes_fit, edge_fits}
use Rattle.program.specs.Chosen.{sizes_fit}
use Rattle.program.specs.Frames.{edge_key}
use Rattle.program.specs.WellFormed.{All}
use Rattle.edit.specs.Editing.{Applies}
use Rattle.exchange.specs.Changes.{Exchange, Change, step, whole}
use Rattle.exchange.specs.Changing.{others, with_nodes}

-- an exchange that is not refused
pub record Fits (x : Exchange) (p : Program) : Type 0 where
  pub routine_fits : x.routine < p.routines
  pub nodes-fit : nodes_fit x.nodes ≡ true
  pub edges_fit : All (edge_fits (with_nodes p x.routine x.nodes)) x.edges
  pub edges_own : All (λ e. eqb e.routine x.routine) x.edges
  pub edges_ascend : Ascending 0 (map edge_key x.edges)
  pub edges_limited : length (others x.routine p.edges) + length x.edges ≤ max_edges
  pub sized : sizes_fit (with_nodes p x.routine x.nodes) ≡ true

-- a change that is not refused
abbrev pub ChangeApplies : Change → Program → Type 0
ChangeApplies (step e) p = Applies e p
ChangeApplies (whole x) p = Fits x p
