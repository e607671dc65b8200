-- The flags from any place on, out of two words: the rest of the one, and above it the first bits of the next.
use mathlib.Core.Path.{◌≡◌, sym, ap, ◌∙◌}
use mathlib.Core.List.{List}
use Prim.Native.Nat.{ℕ, suc, ◌+◌, ◌-◌, ◌*◌, ◌/◌, ◌%◌, ◌^◌, ◌≤◌, ◌<◌, max}
use native.Mathlib.Omega.{arith}
use native.Mathlib.Decide.{ℕ_discrete}
use native.Mathlib.Nat.{zero-div, mul_assoc}
use lib.Bits.{bit_or, or_step, or_shr, or_zero_r, shifted_even}
use lib.Dec.{eqb}
use lib.ListN.{length, get_or, get_or-eq_default}
use lib.Pow.{pow-add, shr-shr, shl-shr, field, mod-mod-pow}
use Rattle.base.proofs.BitsPastTheEnd.{past_the_end}
use Rattle.words.specs.Words.{flags_of, BitsFrom}
use Rattle.words.proofs.FlagsOfPart.{flag_asked}

-- ---- the digits of what is made of a word

abbrev digit : ℕ → ℕ → ℕ
digit j n = n / 2 ^ j % 2

or_digit : (j a b : ℕ) → digit j (bit_or a b) ≡ max (digit j a) (digit j b)
or_digit j a b = rw (or_shr a b j) (omega (arith, or_step (a / 2 ^ j) (b / 2 ^ j)))

right_digit : (s j n : ℕ) → digit j (n / 2 ^ s) ≡ digit (s + j) n
right_digit s j n = ap (λ (k : ℕ). k % 2) (shr-shr n s j)

-- a digit within the word is not cut off
kept_digit : (j n : ℕ) → j < 64 → digit j (n % 2 ^ 64) ≡ digit j n
kept_digit j n h =
    let e : 63 - j + 1 + j ≡ 64 = omega arith in
    let f : n % 2 ^ 64 / 2 ^ j ≡ n / 2 ^ j % 2 ^ (63 - j + 1) = ap (λ (k : ℕ). n % 2 ^ k / 2 ^ j) (sym e) ∙ field n (63 - j + 1) j in
    rw f (mod-mod-pow (n / 2 ^ j) (63 - j) 1)

-- moved up by t: none is below, and the others are t higher
below_digit : (t j n : ℕ) → j < t → j < 64 → digit j (n * 2 ^ t % 2 ^ 64) ≡ 0
below_digit t j n h l =
    let k = t - j - 1 in
    let e : suc k + j ≡ t = omega arith in
    let p : n * 2 ^ t ≡ n * 2 ^ suc k * 2 ^ j = ap (λ (x : ℕ). n * 2 ^ x) (sym e) ∙ ap (λ (x : ℕ). n * x) (pow-add 2 (suc k) j) ∙ sym (mul_assoc n (2 ^ suc k) (2 ^ j)) in
    kept_digit j (n * 2 ^ t) l ∙ rw (p, shl-shr (n * 2 ^ suc k) j) (shifted_even n k)

above_digit : (t j n : ℕ) → t + j < 64 → digit (t + j) (n * 2 ^ t % 2 ^ 64) ≡ digit j n
above_digit t j n l =
    kept_digit (t + j) (n * 2 ^ t) l ∙ sym (right_digit t j (n * 2 ^ t)) ∙ ap (digit j) (shl-shr n t)

-- ---- the next word, as the code moves it: by 1, and by the rest

abbrev moved : ℕ → ℕ → ℕ
moved s v = v * 2 ^ 1 % 2 ^ 64 * 2 ^ (63 - s) % 2 ^ 64

moved_low : (s j v : ℕ) → s + j < 64 → digit j (moved s v) ≡ 0
moved_low s j v h =
    elim (ℕ_discrete j (63 - s)) [
      | yes e ↦
          let f : j ≡ 63 - s + 0 = omega arith in
          ap (λ (k : ℕ). digit k (moved s v)) f ∙ above_digit (63 - s) 0 (v * 2 ^ 1 % 2 ^ 64) (omega arith) ∙ below_digit 1 0 v (omega arith) (omega arith)
      | no e ↦ below_digit (63 - s) j (v * 2 ^ 1 % 2 ^ 64) (omega arith) (omega arith)
    ]

moved_high : (s j v : ℕ) → s < 64 → j < 64 → 64 ≤ s + j → digit j (moved s v) ≡ digit (s + j - 64) v
moved_high s j v a b h =
    let i = s + j - 64 in
    let f : j ≡ 63 - s + (1 + i) = omega arith in
    ap (λ (k : ℕ). digit k (moved s v)) f ∙ above_digit (63 - s) (1 + i) (v * 2 ^ 1 % 2 ^ 64) (omega arith) ∙ above_digit 1 i v (omega arith)

moved_none : (s : ℕ) → moved s 0 ≡ 0
moved_none s = let z : 0 * 2 ^ (63 - s) ≡ 0 = omega arith in rw z

-- ---- the flags

module _ (ws : List ℕ) (at : ℕ) (small : get_or ws (at / 64) 0 < 2 ^ 64) where
  joined_digit : (j : ℕ) → j < 64 → digit j (bit_or (get_or ws (at / 64) 0 / 2 ^ (at % 64)) (moved (at % 64) (get_or ws (at / 64 + 1) 0)))
      ≡ digit ((at + j) % 64) (get_or ws ((at + j) / 64) 0)
  joined_digit j h =
      let s = at % 64 in
      let w = get_or ws (at / 64) 0 in
      let v = get_or ws (at / 64 + 1) 0 in
      or_digit j (w / 2 ^ s) (moved s v) ∙
      elim (ℕ_discrete (64 - (s + j)) 0) [
        | yes e ↦
            let d : (at + j) / 64 ≡ at / 64 + 1 = omega arith in
            let m : (at + j) % 64 ≡ s + j - 64 = omega arith in
            let z : digit j (w / 2 ^ s) ≡ 0 = right_digit s j w ∙ rw (past_the_end 64 (s + j) w (omega arith) small) in
            rw (z, moved_high s j v (omega arith) h (omega arith), d, m) (omega arith)
        | no e ↦
            let d : (at + j) / 64 ≡ at / 64 = omega arith in
            let m : (at + j) % 64 ≡ s + j = omega arith in
            rw (moved_low s j v (omega arith), right_digit s j w, d, m) (omega arith)
      ]

  pub flags_joined : BitsFrom (flags_of ws) at (bit_or (get_or ws (at / 64) 0 / 2 ^ (at % 64)) (moved (at % 64) (get_or ws (at / 64 + 1) 0)))
  flags_joined = record { bit_from = λ j h. ap (λ (n : ℕ). eqb n 1) (joined_digit j h) ∙ flag_asked ws (at + j) }

  -- of the last word
  pub flags_last : length ws ≤ at / 64 + 1 → BitsFrom (flags_of ws) at (get_or ws (at / 64) 0 / 2 ^ (at % 64))
  flags_last h =
      let e = get_or-eq_default ws 0 h in
      rw (e, moved_none (at % 64), or_zero_r (get_or ws (at / 64) 0 / 2 ^ (at % 64))) at flags_joined

-- past the end
pub flags_past : (ws : List ℕ) (at : ℕ) → length ws ≤ at / 64 → BitsFrom (flags_of ws) at 0
flags_past ws at h =
    let e = get_or-eq_default ws 0 h in
    rw (e, zero-div (2 ^ (at % 64))) at (flags_last ws at (rw e (omega arith)) (omega arith))
