-- Counting: sums, set bytes, and the known summaries.
use mathlib.Core.Path.{◌≡◌, subst}
use mathlib.Core.Bool.{cond}
use mathlib.Core.List.{List}
use Prim.Native.Nat.{ℕ, zero, suc, ◌+◌, ◌*◌, ◌≤◌, ◌<◌}
use native.Mathlib.Omega.{arith}
use native.Mathlib.Decide.{ℕ_discrete}
use native.Mathlib.Nat.{suc-mul}
use lib.Dec.{eqb}
use lib.ListN.{get_or}
use borrow.Author.Tests.{eq-eqb}
use Rattle.base.specs.Flags.{On}
use Rattle.base.proofs.SetFlags.{dec_on, on_eqb}
use Rattle.program.specs.declared.sizes.Sizes.{Sizes}
use Rattle.reach.specs.Sizes.{summaries}
use Rattle.reach.specs.Configurations.{Usable}

-- ---- sums

-- F 0 + .. + F (n - 1)
pub sum_to : ℕ → (ℕ → ℕ) → ℕ
sum_to zero F = 0
sum_to (suc n) F = F n + sum_to n F

pub sum_most : (n c : ℕ) (F : ℕ → ℕ) → ((x : ℕ) → F x ≤ c) → sum_to n F ≤ n * c
unfolding sum_to
sum_most zero c F h = omega arith
sum_most (suc n) c F h = omega (arith, h n, sum_most n c F h, suc-mul n c)

sum_mono : (n : ℕ) (F G : ℕ → ℕ) → ((x : ℕ) → F x ≤ G x) → sum_to n F ≤ sum_to n G
unfolding sum_to
sum_mono zero F G h = omega arith
sum_mono (suc n) F G h = omega (arith, h n, sum_mono n F G h)

pub sum_more : (n : ℕ) (F G : ℕ → ℕ) (x : ℕ) → ((x : ℕ) → F x ≤ G x) → x < n → F x + 1 ≤ G x → sum_to n F + 1 ≤ sum_to n G
unfolding sum_to
sum_more zero F G x h l e = absurd (omega arith)
sum_more (suc n) F G x h l e =
    elim (ℕ_discrete x n) [
      | yes z ↦ let u : F n + 1 ≤ G n = subst (λ (y : ℕ). F y + 1 ≤ G y) z e in omega (arith, sum_mono n F G h)
      | no z ↦ omega (arith, h n, sum_more n F G x h (omega arith) e)
    ]

-- ---- a byte, as 0 or 1

pub flag : List ℕ → ℕ → ℕ
flag l j = cond (eqb (get_or l j 0) 0) 0 1

pub flag_on : (l : List ℕ) (j : ℕ) → On l j → flag l j ≡ 1
unfolding flag
flag_on l j h = rw (on_eqb l j h)

pub flag_off : (l : List ℕ) (j : ℕ) → ¬ (On l j) → flag l j ≡ 0
unfolding flag
flag_off l j h =
    elim (ℕ_discrete (get_or l j 0) 0) [
      | yes e ↦ rw (eq-eqb (get_or l j 0) 0 e)
      | no e ↦ absurd (h (record { on = e }))
    ]

pub flag_bit : (l : List ℕ) (j : ℕ) → flag l j ≤ 1
flag_bit l j = elim (dec_on l j) [ yes h ↦ omega (arith, flag_on l j h) | no h ↦ omega (arith, flag_off l j h) ]

pub flag_mono : (l k : List ℕ) (j : ℕ) → (On l j → On k j) → flag l j ≤ flag k j
flag_mono l k j i = elim (dec_on l j) [ yes h ↦ omega (arith, flag_on l j h, flag_on k j (i h)) | no h ↦ omega (arith, flag_off l j h) ]

module _ (Z : Sizes) (U : Usable Z) where
  -- ---- how many summaries are known

  pub known_count : List ℕ → ℕ
  known_count ks = sum_to (summaries Z) (flag ks)

  pub known_most : (ks : List ℕ) → known_count ks ≤ summaries Z
  unfolding known_count
  known_most ks = omega (arith, sum_most (summaries Z) 1 (flag ks) (flag_bit ks))

  module _ (ks ls : List ℕ) (h : (i : ℕ) → On ks i → On ls i) where
    pub known_mono : known_count ks ≤ known_count ls
    unfolding known_count
    known_mono = sum_mono (summaries Z) (flag ks) (flag ls) (λ x. flag_mono ks ls x (h x))

    pub known_more : (x : ℕ) → x < summaries Z → ¬ (On ks x) → On ls x → known_count ks + 1 ≤ known_count ls
    unfolding known_count
    known_more x l not_yet yet =
        sum_more (summaries Z) (flag ks) (flag ls) x (λ y. flag_mono ks ls y (h y)) l (omega (arith, flag_off ks x not_yet, flag_on ls x yet))
