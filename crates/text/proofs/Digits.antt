-- Digits, and the numbers that two of them make.
use mathlib.Core.Path.{◌≡◌, refl, ap, ◌∙◌}
use mathlib.Core.Bool.{Bool, true, false, cond}
use Prim.Native.Nat.{ℕ, ◌+◌, ◌-◌, ◌*◌, ◌/◌, ◌%◌, ◌<◌}
use native.Mathlib.Omega.{arith}
use lib.Dec.{ltb, leb, eqb}
use borrow.Author.Tests.{ltb-true, ltb-false, leb-true, leb-false, eqb-true, lt-ltb, le-ltb, le-leb, lt-leb, ne_eqb}
use Rattle.text.specs.Hex.{digit, two_digits, hex_digit}

-- 0A is no digit, and no digit is 0A
pub no_digit : (a b : ℕ) → eqb b 10 ≡ true → leb 256 (two_digits a b) ≡ true
no_digit a b e = rw (eqb-true b 10 e) (go (ltb (digit a) 16))
  where
    go : (t : Bool) → leb 256 (cond t 256 256) ≡ true
    go true = refl
    go false = refl

pub no_end : (n : ℕ) → eqb (hex_digit n) 10 ≡ false
no_end n = go (ltb n 10)
  where
    go : (t : Bool) → eqb (cond t (48 + n) (55 + n)) 10 ≡ false
    go true = ne_eqb (48 + n) 10 (λ e. omega arith)
    go false = ne_eqb (55 + n) 10 (λ e. omega arith)

digit_hex_digit : (n : ℕ) → n < 16 → digit (hex_digit n) ≡ n
digit_hex_digit n h = go (ltb n 10) refl
  where
    go : (t : Bool) → ltb n 10 ≡ t → digit (cond t (48 + n) (55 + n)) ≡ n
    go true e =
        let k = ltb-true n 10 e in
        rw (le-ltb (48 + n) 48 (omega arith), le-leb (48 + n) 57 (omega arith)) (omega arith)
    go false e =
        let k = ltb-false n 10 e in
        rw (le-ltb (55 + n) 48 (omega arith), lt-leb (55 + n) 57 (omega arith), le-ltb (55 + n) 65 (omega arith), le-leb (55 + n) 70 (omega arith)) (omega arith)

-- a number is what its two digits make
pub two_digits_hex : (x : ℕ) → x < 256 → two_digits (hex_digit (x / 16)) (hex_digit (x % 16)) ≡ x
two_digits_hex x h =
    rw (digit_hex_digit (x / 16) (omega arith), digit_hex_digit (x % 16) (omega arith), lt-ltb (x / 16) 16 (omega arith), lt-ltb (x % 16) 16 (omega arith)) (omega arith)

hex_digit_digit : (b : ℕ) → digit b < 16 → hex_digit (digit b) ≡ b
hex_digit_digit b h = go (ltb b 48) refl (leb b 57) refl (ltb b 65) refl (leb b 70) refl h
  where
    go : (t : Bool) → ltb b 48 ≡ t → (u : Bool) → leb b 57 ≡ u → (v : Bool) → ltb b 65 ≡ v → (w : Bool) → leb b 70 ≡ w
        → cond t 16 (cond u (b - 48) (cond v 16 (cond w (b - 55) 16))) < 16
        → hex_digit (cond t 16 (cond u (b - 48) (cond v 16 (cond w (b - 55) 16)))) ≡ b
    go true e u f v g w i k = absurd (omega arith)
    go false e true f v g w i k =
        let p = ltb-false b 48 e in let q = leb-true b 57 f in
        rw (lt-ltb (b - 48) 10 (omega arith)) (omega arith)
    go false e false f true g w i k = absurd (omega arith)
    go false e false f false g true i k =
        let p = ltb-false b 65 g in let q = leb-true b 70 i in
        rw (le-ltb (b - 55) 10 (omega arith)) (omega arith)
    go false e false f false g false i k = absurd (omega arith)

-- two digits are the text of the number that they make
pub hex_two_digits : (a b : ℕ) → leb 256 (two_digits a b) ≡ false → (hex_digit (two_digits a b / 16) ≡ a) × (hex_digit (two_digits a b % 16) ≡ b) × (two_digits a b < 256)
hex_two_digits a b h = go (ltb (digit a) 16) refl (ltb (digit b) 16) refl (leb-false _ _ h)
  where
    go : (t : Bool) → ltb (digit a) 16 ≡ t → (u : Bool) → ltb (digit b) 16 ≡ u → cond t (cond u (digit a * 16 + digit b) 256) 256 < 256
        → (hex_digit (cond t (cond u (digit a * 16 + digit b) 256) 256 / 16) ≡ a) × (hex_digit (cond t (cond u (digit a * 16 + digit b) 256) 256 % 16) ≡ b)
        × (cond t (cond u (digit a * 16 + digit b) 256) 256 < 256)
    go true e true f k =
        let p = ltb-true (digit a) 16 e in let q = ltb-true (digit b) 16 f in
        let x : (digit a * 16 + digit b) / 16 ≡ digit a = omega arith in
        let y : (digit a * 16 + digit b) % 16 ≡ digit b = omega arith in
        (ap hex_digit x ∙ hex_digit_digit a p, ap hex_digit y ∙ hex_digit_digit b q, k)
    go true e false f k = absurd (omega arith)
    go false e u f k = absurd (omega arith)
