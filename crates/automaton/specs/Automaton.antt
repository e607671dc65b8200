-- The handling rule, as an automaton (paper: the rule).
use Rattle.std.specs.Prelude.{ℕ, ◌+◌, Bool, false, cond, ◌&&◌, ◌||◌, List, [], ◌∷◌, ltb, leb, eqb}
use Rattle.tables.specs.Keys.{member}
use Rattle.automaton.specs.Sizes.{first_call, first_return}
use Rattle.automaton.specs.declared.Event.{Event}
use Rattle.automaton.specs.declared.Event.TheVariants.{Action, Call, Return}

-- from one state to another by a label (paper: a rule line)
pub record Transition : Type 0 where
  pub before : ℕ
  pub label : ℕ
  pub after : ℕ

-- states and actions are counted from 0; initial and rejecting states (paper: start and forbidden states) are listed
pub record Automaton : Type 0 where
  pub states : ℕ
  pub actions : ℕ
  pub transitions : List Transition
  pub initial : List ℕ
  pub rejecting : List ℕ

-- ---- labels: the number of an action, 40 + f for a call of routine f, 60 + f for its return (hexadecimal)

abbrev pub call_of : ℕ → ℕ
call_of f = first_call + f

abbrev pub return_of : ℕ → ℕ
return_of f = first_return + f

abbrev pub label_of : Event → ℕ
label_of (Action a) = a
label_of (Call f) = call_of f
label_of (Return f) = return_of f

-- an edge's label (paper: a step's label), where there are so many routines and actions: an action or a call of a
-- routine, never a return
abbrev pub label_fits : ℕ → ℕ → ℕ → Bool
label_fits routines actions a = ltb a actions || (leb first_call a && ltb a (call_of routines))

-- a transition's label (paper: a rule line's label): an action, a call of a routine or a return from one
abbrev pub event_fits : ℕ → ℕ → ℕ → Bool
event_fits routines actions l =
    label_fits routines actions l || (leb first_return l && ltb l (return_of routines))

-- ---- moves

-- this transition is the one from q to s by label l
abbrev pub goes : ℕ → ℕ → ℕ → Transition → Bool
goes q l s t = eqb t.before q && eqb t.label l && eqb t.after s

-- some transition of the list is the one from q to s by label l
unfoldable pub listed : ℕ → ℕ → ℕ → List Transition → Bool
listed q l s [] = false
listed q l s (t ∷ ts) = goes q l s t || listed q l s ts

-- some transition of the list has label l, whatever its states: the automaton hears it
unfoldable pub heard : ℕ → List Transition → Bool
heard l [] = false
heard l (t ∷ ts) = eqb t.label l || heard l ts

-- a state of the automaton, left alone
abbrev pub stays : Automaton → ℕ → ℕ → Bool
stays r q s = ltb q r.states && eqb q s

-- a call or a return of this label: where it is not heard the state stays, else only the listed moves happen
abbrev pub moves_by : Automaton → ℕ → ℕ → ℕ → Bool
moves_by r q l s = cond (heard l r.transitions) (listed q l s r.transitions) (stays r q s)

-- the automaton may go from q to s by an event: an action, a call of a routine or a return from one
unfoldable pub moves : Automaton → ℕ → Event → ℕ → Bool
moves r q (Action a) s = listed q a s r.transitions
moves r q (Call f) s = moves_by r q (call_of f) s
moves r q (Return f) s = moves_by r q (return_of f) s

abbrev pub is_initial : Automaton → ℕ → Bool
is_initial r q = member q r.initial

abbrev pub is_rejecting : Automaton → ℕ → Bool
is_rejecting r q = member q r.rejecting
