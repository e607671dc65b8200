-- One look at the rule, as the page says it: the moves of the program's events, and no bit outside its range.
use mathlib.Core.Path.{◌≡◌, refl, sym, ◌∙◌}
use mathlib.Core.Logic.{◌≢◌}
use mathlib.Core.Bool.{Bool, true, false, ◌&&◌, and-false}
use mathlib.Core.List.{List}
use Prim.Native.Nat.{ℕ, ◌-◌}
use native.Mathlib.Omega.{arith}
use lib.Dec.{ltb, leb}
use borrow.Author.Tests.{ltb-true, leb-true, le-ltb}
use Rattle.base.proofs.Bools.{both, either}
use Rattle.automaton.specs.Sizes.{first_call, first_return}
use Rattle.automaton.specs.Automaton.{Automaton, call_of, return_of, label_of, label_fits, event_fits}
use Rattle.automaton.specs.NextStates.{set_at, Answers, EventOf}
use Rattle.automaton.specs.declared.Event.{Event}
use Rattle.automaton.specs.declared.Event.TheVariants.{Action, Call, Return}
use Rattle.automaton.proofs.MovesAsked.{asked}
use Rattle.program.specs.Program.{Program}
use Rattle.program.specs.WellFormed.{WellFormed}
use Rattle.program.proofs.ProgramRanged.{ranged}
use Rattle.demands.specs.Demands.{OneLook}

-- a label that fits is that of an event
module _ (r : Automaton) (routines l : ℕ) (none : (e : Event) → EventOf r routines e → label_of e ≢ l) where
  no_call : leb first_call l && ltb l (call_of routines) ≡ true → ⊥
  no_call e =
      let c = both (leb first_call l) _ e in
      let low = leb-true first_call l c.0 in
      let high = ltb-true l (call_of routines) c.1 in
      none (Call (l - first_call)) (omega arith) (omega arith)

  no_return : leb first_return l && ltb l (return_of routines) ≡ true → ⊥
  no_return e =
      let c = both (leb first_return l) _ e in
      let low = leb-true first_return l c.0 in
      let high = ltb-true l (return_of routines) c.1 in
      none (Return (l - first_return)) (omega arith) (omega arith)

  fits_none : event_fits routines r.actions l ≡ true → ⊥
  fits_none e =
      either (label_fits routines r.actions l) _ e
      (λ f. either (ltb l r.actions) _ f (λ g. none (Action l) (ltb-true l r.actions g) refl) no_call) no_return

  unfit : event_fits routines r.actions l ≡ false
  unfit = go (event_fits routines r.actions l) refl
    where
      go : (b : Bool) → event_fits routines r.actions l ≡ b → b ≡ false
      go true e = absurd (fits_none e)
      go false e = refl

pub look_answers : (p : Program) → WellFormed p → (sets : List ℕ) → Answers p.automaton p.routines sets → OneLook p (set_at sets)
look_answers p w sets a =
    let r = p.automaton in
    record {
      bits = λ q e h k s. let m = asked r p.routines (ranged p w) a q e s k in (λ t. sym m ∙ t, λ t. m ∙ t);
      no_state = λ q l s h. a.bits q l s ∙ rw (le-ltb q r.states h);
      no_label = λ q l s none. a.bits q l s ∙ rw (unfit r p.routines l none, and-false (ltb q r.states));
    }
