-- The states of a set in turn, until none is left: what is left is the set halved for each state that is passed.
use Prim.Native.Nat.{ℕ, ◌+◌, ◌-◌, ◌/◌, ◌%◌, ◌^◌, ◌≤◌, ◌<◌}
use mathlib.Core.Logic.{◌≢◌}
use mathlib.Core.Path.{◌≡◌, sym, ap, ◌∙◌}
use mathlib.Core.Bool.{Bool, true, false, cond}
use mathlib.Core.List.{List}
use native.Mathlib.Omega.{arith}
use native.Mathlib.Nat.{zero-div}
use lib.Dec.{eqb}
use lib.Pow.{shr-shr}
use borrow.Author.Tests.{eq-eqb, ne_eqb}
use Rattle.base.specs.Bits.{bit}
use Rattle.reach.specs.Worklist.{Worklist, mark, mark_when}
use Rattle.marking.specs.Parts.{Becomes, LowestOf, mark_state}
use Rattle.marking.proofs.StepsMark.{Idle}

-- at x this is left of the set
pub record Leaving (set x left : ℕ) : Type 0 where
  pub left_is : left ≡ set / 2 ^ x

pub leaving_all : (set : ℕ) → Leaving set 0 set
leaving_all set = record { left_is = omega arith }

-- a state of the set is marked
pub state_marked : (set base x : ℕ) {m w m' w' : List ℕ} → bit x set ≡ true → Becomes (mark (base + x)) m w m' w' → Becomes (mark_state set base x) m w m' w'
unfolding mark_when
state_marked set base x e b = record { becomes = λ k n. rw e (b.becomes k n) }

module _ {set x left : ℕ} (l : Leaving set x left) where
  pub leaving_half : Leaving set (x + 1) (left / 2)
  leaving_half = record { left_is = ap (λ (n : ℕ). n / 2) l.left_is ∙ shr-shr set x 1 }

  -- bit y of what is left is bit x + y of the set
  left_bit : (y : ℕ) → bit y left ≡ bit (x + y) set
  left_bit y = ap (λ (n : ℕ). eqb (n % 2) 1) (ap (λ (n : ℕ). n / 2 ^ y) l.left_is ∙ shr-shr set x y)

  -- the lowest state of what is left is k states on
  module _ {k : ℕ} (low : LowestOf left k) where
    passed : (y : ℕ) → x ≤ y → y < x + k → bit y set ≡ false
    passed y a b =
        let e : x + (y - x) ≡ y = omega arith in
        ap (λ (i : ℕ). bit i set) (sym e) ∙ sym (left_bit (y - x)) ∙ low.below (y - x) (omega arith)

    pub passed_states : (base : ℕ) {n : ℕ} → n ≤ x + k → Idle (mark_state set base) x n
    unfolding mark_when
    passed_states base h = record { idle = λ y a b s. rw (passed y a (omega arith)) }

    pub found_state : left ≢ 0 → bit (x + k) set ≡ true
    found_state h = sym (left_bit k) ∙ (low.found h).0

    pub leaving_next : Leaving set (x + (k + 1)) (left / 2 ^ k / 2)
    leaving_next =
        record { left_is = shr-shr left k 1 ∙ ap (λ (n : ℕ). n / 2 ^ (k + 1)) l.left_is ∙ shr-shr set x (k + 1) }

  -- its lowest bit says whether state x is in the set
  pub leaving_here : left % 2 ≡ 1 → bit x set ≡ true
  leaving_here e = eq-eqb (set / 2 ^ x % 2) 1 (rw (← l.left_is) e)

  pub leaving_other : (left % 2 ≡ 1 → ⊥) → bit x set ≡ false
  leaving_other e = ne_eqb (set / 2 ^ x % 2) 1 (rw (← l.left_is) e)

  -- where nothing is left, no state from x on is in the set
  module _ (e : left ≡ 0) where
    left_out : (y : ℕ) → x ≤ y → bit y set ≡ false
    left_out y h =
        let i : x + (y - x) ≡ y = omega arith in
        let z : set / 2 ^ y ≡ 0 =
        ap (λ (n : ℕ). set / 2 ^ n) (sym i) ∙ sym (shr-shr set x (y - x)) ∙ ap (λ (n : ℕ). n / 2 ^ (y - x)) (sym l.left_is ∙ e) ∙ zero-div (2 ^ (y - x)) in
        rw z

    -- so nothing is left to do for its states
    pub none_marked : (base n : ℕ) → Idle (mark_state set base) x n
    unfolding mark_when
    none_marked base n = record { idle = λ y h k s. rw (left_out y h) }

    pub none_followed : (g : ℕ → Worklist → Worklist) (n : ℕ) → Idle (λ y. λ s. cond (bit y set) (g y s) s) x n
    none_followed g n = record { idle = λ y h k s. rw (left_out y h) }

-- ---- a test that the set answers, for the first n states

pub record Answered (n : ℕ) (t : ℕ → Bool) (set : ℕ) : Type 0 where
  pub answered : (y : ℕ) → y < n → t y ≡ bit y set

module _ {n set x left : ℕ} {t : ℕ → Bool} (a : Answered n t set) (l : Leaving set x left) (g : ℕ → Worklist → Worklist) where
  pub tests_passed : {k m : ℕ} → LowestOf left k → m ≤ n → m ≤ x + k → Idle (λ y. λ s. cond (t y) (g y s) s) x m
  tests_passed low h b = record { idle = λ y i j s. rw (a.answered y (omega arith) ∙ passed l low y i (omega arith)) }

  pub tests_over : left ≡ 0 → Idle (λ y. λ s. cond (t y) (g y s) s) x n
  tests_over e = record { idle = λ y i j s. rw (a.answered y j ∙ left_out l e y i) }
