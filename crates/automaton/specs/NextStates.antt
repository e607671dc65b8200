-- One look at the automaton: a state and a label give all next states as a set, bit s for state s.
use Rattle.std.specs.Prelude.{ℕ, ◌+◌, ◌*◌, ◌/◌, ◌%◌, ◌^◌, ◌≤◌, ◌<◌, ◌≡◌, Bool, true, cond, not, ◌&&◌, ltb, length, get_or, set}
use mathlib.Core.List.{List, Memᴰ}
use Rattle.base.specs.Bits.{bit, with_bit}
use Rattle.base.specs.Flags.{is_set}
use Rattle.automaton.specs.Sizes.{max_states, first_call, first_return, max_labels, next_states_size}
use Rattle.automaton.specs.Automaton.{Transition, Automaton, call_of, event_fits, listed, heard, moves_by}
use Rattle.automaton.specs.declared.Event.{Event}
use Rattle.automaton.specs.declared.Event.TheVariants.{Action, Call, Return}

-- the range of a program with so many routines, states and actions: a state, and the label of an action, of a call of a
-- routine or of a return from one
abbrev pub in_range : ℕ → ℕ → ℕ → ℕ → ℕ → Bool
in_range routines states actions q l = ltb q states && event_fits routines actions l

-- the automaton may go from q to s by label l, be it an action's, a call's or a return's
abbrev pub moves_on : Automaton → ℕ → ℕ → ℕ → Bool
moves_on r q l s = cond (ltb l first_call) (listed q l s r.transitions) (moves_by r q l s)

-- the set for a state and a label in a table of sets, label by label; outside the sizes there is none
abbrev pub set_at : List ℕ → ℕ → ℕ → ℕ
set_at sets q l = cond (ltb q max_states) (get_or sets (l * max_states + q) 0) 0

-- the table is that of this automaton in a program with so many routines: in the set for q and l bit s is set exactly
-- when both are in range and the automaton may go from q to s by l
pub record Answers (r : Automaton) (routines : ℕ) (sets : List ℕ) : Type 0 where
  pub size : length sets ≡ next_states_size
  pub bits : (q l s : ℕ) → bit s (set_at sets q l) ≡ in_range routines r.states r.actions q l && moves_on r q l s

-- the event is one of a program with this automaton and so many routines
abbrev pub EventOf : Automaton → ℕ → Event → Type 0
EventOf r routines (Action a) = a < r.actions
EventOf r routines (Call f) = f < routines
EventOf r routines (Return f) = f < routines

-- the counts are within the sizes, and every transition is in range and leads to a state of the automaton
pub record Ranged (r : Automaton) (routines : ℕ) : Type 0 where
  pub states : r.states ≤ max_states
  pub actions : r.actions ≤ first_call
  pub calls : call_of routines ≤ first_return
  pub transition : (t : Transition) → Memᴰ t r.transitions
      → (in_range routines r.states r.actions t.before t.label ≡ true) × (t.after < r.states)

-- ---- what the functions that fill the table promise of each other

-- there are so many sets, and in none a bit for more states than there may be
pub record Sets (sets : List ℕ) : Type 0 where
  pub size : length sets ≡ next_states_size
  pub small : (i : ℕ) → get_or sets i 0 < 2 ^ max_states

-- the sets are those of the transitions of this list
pub record Listed (ts : List Transition) (sets : List ℕ) : Type 0 where
  pub shape : Sets sets
  pub listed_at : (q l s : ℕ) → q < max_states → l < max_labels → s < max_states
      → bit s (get_or sets (l * max_states + q) 0) ≡ listed q l s ts

-- the flags are those of the labels that are heard
pub record Heard (ts : List Transition) (flags : List ℕ) : Type 0 where
  pub heard_at : (l : ℕ) → l < max_labels → is_set flags l ≡ heard l ts

-- the sets with one transition more; one with a part that is outside the sizes has no place among them
unfoldable pub with_transition : Transition → List ℕ → List ℕ
with_transition t sets =
    let at = t.label * max_states + t.before in
    cond (ltb t.before max_states && ltb t.after max_states)
    (set sets at (with_bit t.after (get_or sets at 0))) sets

-- place i is that of label i / 16 and state i % 16: where both are in range and the label is not heard, the state stays
abbrev pub stayed_at : ℕ → ℕ → ℕ → List ℕ → ℕ → ℕ → ℕ
stayed_at routines states actions heard i old =
    cond (not (is_set heard (i / max_states)) && in_range routines states actions (i % max_states) (i / max_states))
    (with_bit (i % max_states) old) old
