-- The two round trips of a line: what is written is read, and what is read is what would be written.
use mathlib.Core.Path.{◌≡◌, refl, ap}
use mathlib.Core.Bool.{Bool, true, false, cond}
use mathlib.Core.Option.{Option, some, none}
use mathlib.Core.List.{List, [], ◌∷◌, ◌++◌}
use Prim.Native.Nat.{ℕ, ◌*◌, ◌/◌, ◌%◌}
use native.Mathlib.Omega.{arith}
use lib.Dec.{leb, eqb}
use lib.ListN.{length}
use borrow.Author.Tests.{eqb-true, lt-leb}
use Rattle.text.specs.Hex.{two_digits, hex}
use Rattle.text.specs.Lines.{before, numbers_of, Bytes}
use Rattle.text.proofs.Digits.{no_end, two_digits_hex, hex_two_digits}

pub hex_append : (xs ys : List ℕ) → hex (xs ++ ys) ≡ hex xs ++ hex ys
unfolding hex
hex_append [] ys = refl
hex_append (x ∷ xs) ys = rw (hex_append xs ys)

pub length_hex : (xs : List ℕ) → length (hex xs) ≡ 2 * length xs
unfolding hex
length_hex [] = refl
length_hex (x ∷ xs) = let e = length_hex xs in omega arith

-- what is written is read: a line of numbers, whatever follows it, has just these numbers
pub numbers_hex : (xs rest : List ℕ) → Bytes xs → numbers_of (hex xs ++ 10 ∷ rest) ≡ some xs
unfolding numbers_of hex
numbers_hex [] [] b = refl
numbers_hex [] (r ∷ rest) b = refl
numbers_hex (x ∷ xs) rest b = rw (no_end (x / 16), two_digits_hex x b.0, lt-leb 256 x b.0, numbers_hex xs rest b.1)

-- what follows the first line of a text
unfoldable pub after_line : List ℕ → List ℕ
after_line [] = []
after_line (b ∷ s) = cond (eqb b 10) s (after_line s)

never : {A : Type 0} (xs : List ℕ) → ◌≡◌ {A = Option (List ℕ)} none (some xs) → A
never xs e = absurd (let z : ◌≡◌ {A = ℕ} 0 1 = cc in omega arith)

-- what is read is what would be written: a line that has numbers is their text, and each fits a byte
pub text_of : (s xs : List ℕ) → numbers_of s ≡ some xs → (s ≡ hex xs ++ 10 ∷ after_line s) × Bytes xs
unfolding numbers_of after_line hex
text_of [] xs h = never xs h
text_of (a ∷ []) xs h = go (eqb a 10) refl h
  where
    go : (t : Bool) → eqb a 10 ≡ t → cond t (some []) none ≡ some xs → (a ∷ [] ≡ hex xs ++ 10 ∷ cond t [] []) × Bytes xs
    go true e h = let z : [] ≡ xs = cc in rw (← z, eqb-true a 10 e) (refl, tt)
    go false e h = never xs h
text_of (a ∷ b ∷ s) xs h = go (eqb a 10) refl (leb 256 (two_digits a b)) refl (numbers_of s) (text_of s) h
  where
    go : (t : Bool) → eqb a 10 ≡ t → (u : Bool) → leb 256 (two_digits a b) ≡ u → (m : Option (List ℕ))
        → ((ys : List ℕ) → m ≡ some ys → (s ≡ hex ys ++ 10 ∷ after_line s) × Bytes ys)
        → cond t (some []) (cond u none (before (two_digits a b) m)) ≡ some xs
        → (a ∷ b ∷ s ≡ hex xs ++ 10 ∷ cond t (b ∷ s) (cond (eqb b 10) s (after_line s))) × Bytes xs
    go true e u p m r h = let z : [] ≡ xs = cc in rw (← z, eqb-true a 10 e) (refl, tt)
    go false e true p m r h = never xs h
    go false e false p none r h = never xs h
    go false e false p (some ys) r h =
        let z : two_digits a b ∷ ys ≡ xs = cc in
        let w = hex_two_digits a b p in
        let n : eqb b 10 ≡ false = rw w.1 at (no_end (two_digits a b % 16)) in
        rw (← z, n) (rw (w.0, w.1) (ap (λ (l : List ℕ). a ∷ b ∷ l) (r ys refl).0), (w.2, (r ys refl).1))
