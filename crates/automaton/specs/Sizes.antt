-- The sizes of the automaton: how many states, actions and transitions there are at most, and the numbers of labels.
use Rattle.std.specs.Prelude.{ℕ, ◌*◌}

abbrev pub max_states : ℕ
max_states = 16

abbrev pub max_actions : ℕ
max_actions = 32

abbrev pub max_transitions : ℕ
max_transitions = 512

-- the label of a call of routine 0; below it are the actions
abbrev pub first_call : ℕ
first_call = 0x40

-- the label of a return from routine 0; below it are the calls
abbrev pub first_return : ℕ
first_return = 0x60

-- every label is below this
abbrev pub max_labels : ℕ
max_labels = 0x80

-- a set of next states for each label and state
abbrev pub next_states_size : ℕ
next_states_size = max_labels * max_states
