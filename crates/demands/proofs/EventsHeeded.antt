-- The moves by calls and returns, as the page says them: the state stays, or only the listed moves happen.
use mathlib.Core.Path.{◌≡◌, refl, sym, ◌∙◌}
use mathlib.Core.Logic.{◌↔◌}
use mathlib.Core.Bool.{Bool, true}
use mathlib.Core.List.{Memᴰ}
use Prim.Native.Nat.{ℕ, ◌<◌}
use native.Mathlib.Omega.{arith}
use lib.Dec.{ltb, eqb}
use borrow.Author.Tests.{ltb-true, eqb-true, lt-ltb, eq-eqb}
use Rattle.base.proofs.Bools.{both}
use Rattle.automaton.specs.Automaton.{Automaton, call_of, return_of, listed, stays, moves}
use Rattle.automaton.specs.declared.Event.{Event}
use Rattle.automaton.specs.declared.Event.TheVariants.{Action, Call, Return}
use Rattle.automaton.proofs.EventsHeard.{listed_in, in_listed, unheard_stays, heard_listed}
use Rattle.demands.specs.Demands.{Heeds, OnActions, moves_before}

-- to stay is to be in a state of the automaton, before and after
stays_iff : (r : Automaton) (q s : ℕ) → (stays r q s ≡ true) ↔ ((q < r.states) × (q ≡ s))
stays_iff r q s = (
  λ h. let c = both (ltb q r.states) (eqb q s) h in (ltb-true q r.states c.0, eqb-true q s c.1),
  λ c. rw (lt-ltb q r.states c.0) (eq-eqb q s c.1),
)

listed_iff : (r : Automaton) (q l s : ℕ)
    → (listed q l s r.transitions ≡ true) ↔ Memᴰ (record { before = q; label = l; after = s }) r.transitions
listed_iff r q l s = (listed_in q l s r.transitions, in_listed (record { before = q; label = l; after = s }) r.transitions)

-- an equal test holds for the same reason
instead : {a b : Bool} {X : Type 0} → a ≡ b → (b ≡ true) ↔ X → (a ≡ true) ↔ X
instead e h = (λ t. h.0 (sym e ∙ t), λ x. e ∙ h.1 x)

pub call_heeded : (r : Automaton) (f : ℕ) → Heeds r (Call f)
unfolding moves
call_heeded r f =
    record {
      unheard = λ h q s. instead (unheard_stays r (call_of f) h q s) (stays_iff r q s);
      heard = λ t m e q s. instead (heard_listed r (call_of f) t m e q s) (listed_iff r q (call_of f) s);
    }

pub return_heeded : (r : Automaton) (f : ℕ) → Heeds r (Return f)
unfolding moves
return_heeded r f =
    record {
      unheard = λ h q s. instead (unheard_stays r (return_of f) h q s) (stays_iff r q s);
      heard = λ t m e q s. instead (heard_listed r (return_of f) t m e q s) (listed_iff r q (return_of f) s);
    }

pub as_before : (r : Automaton) → OnActions r → (q : ℕ) (e : Event) (s : ℕ) → moves r q e s ≡ moves_before r q e s
unfolding moves
as_before r h q (Action a) s = refl
as_before r h q (Call f) s = unheard_stays r (call_of f) (λ t m e. let k = h t m in absurd (omega arith)) q s
as_before r h q (Return f) s = unheard_stays r (return_of f) (λ t m e. let k = h t m in absurd (omega arith)) q s
