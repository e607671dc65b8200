-- The sizes of a program and of what is lent for it.
use Rattle.std.specs.Prelude.{ℕ, ◌+◌}
use Rattle.automaton.specs.Sizes.{max_states, max_transitions}

abbrev pub max_routines : ℕ
max_routines = 16

-- nodes of one routine (paper: places)
abbrev pub max_nodes : ℕ
max_nodes = 64

abbrev pub max_edges : ℕ
max_edges = 256

-- frames before the end frame: the header, and one for each routine, edge, transition, initial and rejecting state
abbrev pub max_frames : ℕ
max_frames = 1 + max_routines + max_edges + max_transitions + max_states + max_states

-- the most configurations that may have a number: a byte for each (paper: the sheet)
abbrev pub marks_most : ℕ
marks_most = 16384

-- the least length of an output: no program is written as more bytes
abbrev pub output_size : ℕ
output_size = 7712
