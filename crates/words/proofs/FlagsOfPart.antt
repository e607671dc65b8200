-- The first flags of some words: as many as there are numbers, which need not fill the last word.
use mathlib.Core.Path.{◌≡◌, refl, sym, ap, ◌∙◌}
use mathlib.Core.Bool.{false, not}
use mathlib.Core.List.{List, [], ◌∷◌}
use Prim.Native.Nat.{ℕ, zero, suc, ◌-◌, ◌/◌, ◌%◌, ◌^◌, ◌≤◌, ◌<◌}
use native.Mathlib.Omega.{arith}
use native.Mathlib.Decide.{ℕ_discrete}
use native.Mathlib.Nat.{zero-div}
use lib.Dec.{eqb}
use lib.ListN.{length, get_or, set, take, length-take, get_or-eq_default}
use lib.Seq.{take-set-le, take-set-lt, set_out}
use Rattle.base.specs.Flags.{is_set}
use Rattle.words.specs.Words.{flags_of}
use Rattle.words.proofs.FlagsAsked.{flag_at}

-- a digit of two, as a test
pub one_of_two : (n : ℕ) → eqb (n % 2) 1 ≡ not (eqb (n % 2) 0)
one_of_two n = go (n % 2) (omega arith)
  where
    go : (m : ℕ) → m < 2 → eqb m 1 ≡ not (eqb m 0)
    go zero h = refl
    go (suc zero) h = refl
    go (suc (suc m)) h = absurd (omega arith)

pub flag_asked : (ws : List ℕ) (i : ℕ) → eqb (get_or ws (i / 64) 0 / 2 ^ (i % 64) % 2) 1 ≡ is_set (flags_of ws) i
flag_asked ws i = one_of_two (get_or ws (i / 64) 0 / 2 ^ (i % 64)) ∙ ap (λ (n : ℕ). not (eqb n 0)) (sym (flag_at ws i))

pub flag_past : (ws : List ℕ) (i : ℕ) → length ws ≤ i / 64 → is_set (flags_of ws) i ≡ false
flag_past ws i h =
    let z : get_or (flags_of ws) i 0 ≡ 0 = flag_at ws i ∙ rw (get_or-eq_default ws 0 h, zero-div (2 ^ (i % 64))) in
    ap (λ (n : ℕ). not (eqb n 0)) z

-- ---- the first n

pub take_set : (n : ℕ) (l : List ℕ) (i x : ℕ) → take n (set l i x) ≡ set (take n l) i x
take_set n l i x =
    elim (ℕ_discrete (n - i) 0) [
      | yes e ↦ let h : n ≤ i = omega arith in take-set-le n l i x h ∙ sym (set_out (take n l) i x (omega (arith, length-take n l)))
      | no e ↦ take-set-lt n l i x (omega arith)
    ]

pub take_at : (n : ℕ) (l : List ℕ) (i : ℕ) → i < n → get_or (take n l) i 0 ≡ get_or l i 0
take_at zero l i h = absurd (omega arith)
take_at (suc n) [] i h = refl
take_at (suc n) (x ∷ l) zero h = refl
take_at (suc n) (x ∷ l) (suc i) h = take_at n l i (omega arith)
