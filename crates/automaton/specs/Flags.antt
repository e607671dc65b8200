-- The initial and the rejecting states as flags: the answers are looked up instead of sought.
use Rattle.std.specs.Prelude.{ℕ, ◌<◌, ◌≡◌, List}
use Rattle.base.specs.Flags.{is_set}
use Rattle.automaton.specs.Automaton.{Automaton, is_initial, is_rejecting}
use Rattle.tables.specs.Keys.{member}
use Rattle.automaton.specs.Sizes.{max_states}

-- the flags are those of the initial states of this automaton (paper: start states)
pub record Starts (r : Automaton) (flags : List ℕ) : Type 0 where
  pub starts : (q : ℕ) → q < max_states → is_set flags q ≡ is_initial r q

-- the flags are those of the rejecting states of this automaton (paper: forbidden states)
pub record Rejects (r : Automaton) (flags : List ℕ) : Type 0 where
  pub rejects : (q : ℕ) → q < max_states → is_set flags q ≡ is_rejecting r q

-- the flags are those of the states of this list
pub record Lists (states flags : List ℕ) : Type 0 where
  pub lists : (q : ℕ) → q < max_states → is_set flags q ≡ member q states
