-- The sizes of what is kept of configurations, beside the marks.
use Rattle.std.specs.Prelude.{ℕ, ◌+◌, ◌*◌}
use Rattle.automaton.specs.Sizes.{max_states}
use Rattle.program.specs.Sizes.{max_routines}
use Rattle.program.specs.declared.sizes.Sizes.{Sizes}
use Rattle.program.specs.Chosen.{numbers}

-- a flag for each root: its routine and its state, whatever the sizes
abbrev pub roots_size : ℕ
roots_size = max_routines * max_states

module _ (Z : Sizes) where
  -- so many numbers follow one another: those of a root, of a node, and of a routine
  abbrev pub root_span : ℕ
  root_span = Z.states

  abbrev pub node_span : ℕ
  node_span = Z.states * Z.states

  abbrev pub routine_span : ℕ
  routine_span = Z.nodes * node_span

  -- a byte for each summary (paper: a known pair): its routine, its root and its state
  unfoldable pub summaries : ℕ
  summaries = Z.routines * Z.states * Z.states

  -- so many iterations (paper: takings) are always enough: one for each configuration, and one more for each summary
  unfoldable pub enough_iterations : ℕ
  enough_iterations = numbers Z * (1 + summaries)
