-- What the table of next states answers: the moves of the program's events.
use mathlib.Core.Path.{◌≡◌, refl, sym, ◌∙◌}
use mathlib.Core.Bool.{Bool, true, false, cond, ◌&&◌}
use mathlib.Core.List.{List}
use Prim.Native.Nat.{ℕ}
use native.Mathlib.Omega.{arith}
use lib.Dec.{ltb, eqb}
use borrow.Author.Tests.{lt-ltb, le-ltb, le-leb}
use Rattle.base.specs.Bits.{bit}
use Rattle.base.proofs.Bools.{or_right}
use Rattle.automaton.specs.Sizes.{first_call, first_return}
use Rattle.automaton.specs.Automaton.{Automaton, call_of, return_of, label_of, label_fits, event_fits, listed, heard, stays, moves_by, moves}
use Rattle.automaton.specs.NextStates.{in_range, set_at, Answers, EventOf, Ranged}
use Rattle.automaton.specs.declared.Event.{Event}
use Rattle.automaton.specs.declared.Event.TheVariants.{Action, Call, Return}
use Rattle.automaton.proofs.LabelsUnheard.{in_range_listed}

module _ (r : Automaton) (routines : ℕ) (ranged : Ranged r routines) where
  abbrev fits : ℕ → Bool
  fits l = event_fits routines r.actions l

  -- the label of an event of the program fits
  pub event-fits : (e : Event) → EventOf r routines e → fits (label_of e) ≡ true
  event-fits (Action a) h = rw (lt-ltb a r.actions h)
  event-fits (Call f) h =
      rw (le-leb first_call (call_of f) (omega arith), lt-ltb (call_of f) (call_of routines) (omega arith), or_right (ltb (call_of f) r.actions) true refl)
  event-fits (Return f) h =
      or_right (label_fits routines r.actions (return_of f)) _
      (rw (le-leb first_return (return_of f) (omega arith), lt-ltb (return_of f) (return_of routines) (omega arith)))

  -- what is listed is in range, and a call or a return of a label that fits moves a state of the automaton only
  listed_in_range : (q l s : ℕ) → in_range routines r.states r.actions q l && listed q l s r.transitions ≡ listed q l s r.transitions
  listed_in_range q l s = sym (in_range_listed r routines ranged q l s)

  by_fits : (q l s : ℕ) → fits l ≡ true → in_range routines r.states r.actions q l && moves_by r q l s ≡ moves_by r q l s
  by_fits q l s e = go (heard l r.transitions) refl
    where
      go : (b : Bool) → heard l r.transitions ≡ b
          → in_range routines r.states r.actions q l && cond b (listed q l s r.transitions) (stays r q s) ≡ cond b (listed q l s r.transitions) (stays r q s)
      go true f = listed_in_range q l s
      go false f = rw e (twice (ltb q r.states) (eqb q s))
        where
          twice : (b c : Bool) → b && true && (b && c) ≡ b && c
          twice true c = refl
          twice false c = refl

  module _ {sets : List ℕ} (answers : Answers r routines sets) where
    -- bit s is set in the set for a state and an event exactly when the automaton may go to s
    pub asked : (q : ℕ) (e : Event) (s : ℕ) → EventOf r routines e → bit s (set_at sets q (label_of e)) ≡ moves r q e s
    unfolding moves
    asked q (Action a) s h =
        let b = ranged.actions in
        answers.bits q a s ∙ rw (lt-ltb a first_call (omega arith)) (listed_in_range q a s)
    asked q (Call f) s h =
        answers.bits q (call_of f) s ∙ rw (le-ltb (call_of f) first_call (omega arith)) (by_fits q (call_of f) s (event-fits (Call f) h))
    asked q (Return f) s h =
        answers.bits q (return_of f) s ∙ rw (le-ltb (return_of f) first_call (omega arith)) (by_fits q (return_of f) s (event-fits (Return f) h))
