-- One bit of a word is set or cleared: which bits it has then.
use mathlib.Core.Path.{◌≡◌, refl, sym, ◌∙◌}
use mathlib.Core.Logic.{◌≢◌}
use mathlib.Core.Bool.{or-true, or-false}
use Prim.Native.Nat.{ℕ, zero, suc, ◌*◌, ◌/◌, ◌%◌, ◌^◌, ◌≤◌}
use native.Mathlib.Omega.{arith}
use native.Mathlib.Nat.{zero-div}
use lib.Bits.{bit_xor, differ, xor_step, xor_shr}
use lib.Dec.{eqb}
use lib.Pow.{shl_exact}
use borrow.Author.Tests.{eqb-true, eq-eqb, ne_eqb}
use Rattle.base.specs.Bits.{bit, with_bit, without_bit}
use Rattle.base.proofs.Bools.{never}
use Rattle.base.proofs.BitsSet.{bit_with}

-- v is n with x as its bit s
pub record Changed (s x n v : ℕ) : Type 0 where
  pub here : v / 2 ^ s % 2 ≡ x
  pub others : (j : ℕ) → j ≢ s → v / 2 ^ j % 2 ≡ n / 2 ^ j % 2

-- ---- set

same_digit : (a b : ℕ) → a ≤ 1 → b ≤ 1 → eqb a 1 ≡ eqb b 1 → a ≡ b
same_digit zero zero h k e = refl
same_digit zero (suc zero) h k e = never refl (sym e)
same_digit zero (suc (suc b)) h k e = absurd (omega arith)
same_digit (suc zero) zero h k e = never refl e
same_digit (suc zero) (suc zero) h k e = refl
same_digit (suc zero) (suc (suc b)) h k e = absurd (omega arith)
same_digit (suc (suc a)) b h k e = absurd (omega arith)

pub set_changed : (s n : ℕ) → Changed s 1 n (with_bit s n)
set_changed s n =
    record {
      here = eqb-true (with_bit s n / 2 ^ s % 2) 1 (bit_with s s n ∙ rw (eq-eqb s s refl) (or-true (bit s n)));
      others = λ j d.
          let e : bit j (with_bit s n) ≡ bit j n = bit_with j s n ∙ rw (ne_eqb s j (λ q. d (sym q))) (or-false (bit j n)) in
          same_digit (with_bit s n / 2 ^ j % 2) (n / 2 ^ j % 2) (omega arith) (omega arith) e;
    }

-- a power of 2 has one bit
power_changed : (s : ℕ) → Changed s 1 0 (2 ^ s)
unfolding with_bit
power_changed s = set_changed s 0

-- ---- cleared

differ_none : (x : ℕ) → differ x 0 ≡ x
differ_none zero = refl
differ_none (suc x) = refl

xor_odd : (a b : ℕ) → a % 2 ≡ 1 → b % 2 ≡ 1 → bit_xor a b % 2 ≡ 0
xor_odd a b e f = let d : differ (a % 2) (b % 2) ≡ 0 = rw (e, f) in omega (arith, xor_step a b)

xor_even : (a b : ℕ) → b % 2 ≡ 0 → bit_xor a b % 2 ≡ a % 2
xor_even a b f = let d : differ (a % 2) (b % 2) ≡ a % 2 = rw f (differ_none (a % 2)) in omega (arith, xor_step a b)

pub clear_changed : (s n : ℕ) → Changed s 0 n (without_bit s n)
unfolding without_bit with_bit
clear_changed s n =
    let set = set_changed s n in
    let power = power_changed s in
    record {
      here = rw (xor_shr (with_bit s n) (2 ^ s) s) (xor_odd (with_bit s n / 2 ^ s) (2 ^ s / 2 ^ s) set.here power.here);
      others = λ j d.
          let none : 2 ^ s / 2 ^ j % 2 ≡ 0 = power.others j d ∙ rw (zero-div (2 ^ j)) in
          rw (xor_shr (with_bit s n) (2 ^ s) j) (xor_even (with_bit s n / 2 ^ j) (2 ^ s / 2 ^ j) none ∙ set.others j d);
    }

-- ---- a bit as the code makes it

-- the bit of a flag is within the word
pub shifted_one : (at : ℕ) → 1 * 2 ^ (at % 64) % 2 ^ 64 ≡ 2 ^ (at % 64)
shifted_one at =
    let one : 1 * 2 ^ (at % 64) ≡ 2 ^ (at % 64) = omega arith in
    shl_exact {a = 1} 1 (at % 64) 64 (omega arith) (omega arith) ∙ one
