-- What a flag is, by its number: a bit of a word.
use mathlib.Core.Path.{◌≡◌, refl, sym, ap, ◌∙◌}
use mathlib.Core.List.{List, [], ◌∷◌, ◌++◌}
use Prim.Native.Nat.{ℕ, zero, suc, ◌+◌, ◌-◌, ◌*◌, ◌/◌, ◌%◌, ◌^◌, ◌≤◌, ◌<◌}
use native.Mathlib.Omega.{arith}
use native.Mathlib.Nat.{zero-div, div-one}
use native.Mathlib.Decide.{ℕ_discrete}
use lib.ListN.{length, get_or, replicate, length-append, replicate-append-replicate, get_or-append}
use lib.Pow.{shr-shr}
use lib.Seq.{get_or-append-add}
use Rattle.words.specs.Words.{word_bits, flags_in, flags_of}

-- ---- the flags of one word

in_length : (k w : ℕ) → length (flags_in k w) ≡ k
unfolding flags_in
in_length zero w = refl
in_length (suc k) w = ap suc (in_length k (w / 2))

in_none : (k : ℕ) → flags_in k 0 ≡ replicate k 0
unfolding flags_in
in_none zero = refl
in_none (suc k) = ap (λ (l : List ℕ). 0 ∷ l) (in_none k)

-- the bits of a half are those of the whole, from bit 1 on
pub half_bit : (w i : ℕ) → w / 2 / 2 ^ i ≡ w / 2 ^ suc i
half_bit w i = let e : 1 + i ≡ suc i = omega arith in shr-shr w 1 i ∙ ap (λ (x : ℕ). w / 2 ^ x) e

in_at : (k w i : ℕ) → i < k → get_or (flags_in k w) i 0 ≡ w / 2 ^ i % 2
unfolding flags_in
in_at zero w i h = absurd (omega arith)
in_at (suc k) w zero h = ap (λ (x : ℕ). x % 2) (sym (div-one w))
in_at (suc k) w (suc i) h = in_at k (w / 2) i (omega arith) ∙ ap (λ (x : ℕ). x % 2) (half_bit w i)

-- ---- the flags of all words

pub flags_length : (ws : List ℕ) → length (flags_of ws) ≡ length ws * 64
unfolding flags_of
flags_length [] = refl
flags_length (w ∷ ws) =
    let l = length-append (flags_in word_bits w) (flags_of ws) in
    let n = in_length word_bits w in
    let r = flags_length ws in
    omega arith

-- past the end the flag is 0
pub flag_at : (ws : List ℕ) (i : ℕ) → get_or (flags_of ws) i 0 ≡ get_or ws (i / 64) 0 / 2 ^ (i % 64) % 2
unfolding flags_of
flag_at [] i = rw (zero-div (2 ^ (i % 64)))
flag_at (w ∷ ws) i =
    elim (ℕ_discrete (i / 64) 0) [
      | yes e ↦
          let h : i < 64 = omega arith in
          let m : i % 64 ≡ i = omega arith in
          rw (e, m) (get_or-append (flags_in word_bits w) (flags_of ws) 0 i (rw (in_length word_bits w) h) ∙ in_at word_bits w i h)
      | no n ↦
          let d : i / 64 ≡ suc ((i - 64) / 64) = omega arith in
          let m : i % 64 ≡ (i - 64) % 64 = omega arith in
          let j : length (flags_in word_bits w) + (i - 64) ≡ i = omega (arith, in_length word_bits w) in
          rw (d, m) (ap (λ (x : ℕ). get_or (flags_in word_bits w ++ flags_of ws) x 0) (sym j) ∙ get_or-append-add (flags_in word_bits w) (flags_of ws) (i - 64) 0 ∙ flag_at ws (i - 64))
    ]

pub flag_small : (ws : List ℕ) (i : ℕ) → get_or (flags_of ws) i 0 ≤ 1
flag_small ws i = rw (flag_at ws i) (omega arith)

pub no_flags : (n : ℕ) → flags_of (replicate n 0) ≡ replicate (n * 64) 0
unfolding flags_of
no_flags zero = refl
no_flags (suc n) =
    let e : 64 + n * 64 ≡ suc n * 64 = omega arith in
    rw (in_none word_bits, no_flags n, ← e) (replicate-append-replicate {A = ℕ} 64 (n * 64) 0)
