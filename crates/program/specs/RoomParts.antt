-- What the reader's private functions ask: there is room for one more in the list that a frame whose kind has place k
-- adds to. Nothing here has to be believed.
use Rattle.std.specs.Prelude.{ℕ, ◌<◌, ◌≡◌, List, length}
use Rattle.automaton.specs.Sizes.{max_states, max_transitions}
use Rattle.automaton.specs.Automaton.{Automaton}
use Rattle.rows.specs.Rows.{max_rows, TableRow}
use Rattle.program.specs.Sizes.{max_routines, max_edges}
use Rattle.program.specs.Program.{Program}

pub record RoomInAutomaton (r : Automaton) (k : ℕ) : Type 0 where
  pub transitions : k ≡ 4 → length r.transitions < max_transitions
  pub initial : k ≡ 6 → length r.initial < max_states
  pub rejecting : k ≡ 7 → length r.rejecting < max_states

pub record Room (p : Program) (k : ℕ) : Type 0 where
  pub nodes : k ≡ 2 → length p.nodes < max_routines
  pub edges : k ≡ 3 → length p.edges < max_edges
  pub automaton : RoomInAutomaton p.automaton k

abbrev pub RoomForRow : List TableRow → ℕ → Type 0
RoomForRow rs k = k ≡ 5 → length rs < max_rows
