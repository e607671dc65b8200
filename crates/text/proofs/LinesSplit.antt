-- The lines of a text, taken from the front one after the other.
use mathlib.Core.Path.{◌≡◌, refl, sym, ap, ◌∙◌}
use mathlib.Core.Bool.{Bool, true, false, cond}
use mathlib.Core.Option.{some}
use mathlib.Core.List.{List, [], ◌∷◌, ◌++◌, append_assoc}
use Prim.Native.Nat.{ℕ, ◌+◌, ◌*◌, ◌/◌, ◌%◌}
use lib.Dec.{eqb}
use lib.ListN.{length, drop, length-append}
use lib.Seq.{drop_at}
use Rattle.text.specs.Hex.{hex, hex_line}
use Rattle.text.specs.Lines.{first_line, glue, lines, numbers_of}
use Rattle.text.proofs.Digits.{no_digit, no_end}
use Rattle.text.proofs.RoundTrip.{length_hex, text_of}
unfoldable pub use Rattle.text.proofs.RoundTrip.{after_line}

pub lines_first : (b : ℕ) (s : List ℕ) → lines (b ∷ s) ≡ first_line (b ∷ s) ∷ lines (after_line (b ∷ s))
unfolding lines first_line after_line
lines_first b [] = go (eqb b 10)
  where
    go : (t : Bool) → cond t ((b ∷ []) ∷ []) (glue b []) ≡ (b ∷ cond t [] []) ∷ lines (cond t [] [])
    go true = refl
    go false = refl
lines_first b (c ∷ s) = go (eqb b 10) (lines_first c s)
  where
    go : (t : Bool) → lines (c ∷ s) ≡ first_line (c ∷ s) ∷ lines (after_line (c ∷ s))
        → cond t ((b ∷ []) ∷ lines (c ∷ s)) (glue b (lines (c ∷ s))) ≡ (b ∷ cond t [] (first_line (c ∷ s))) ∷ lines (cond t (c ∷ s) (after_line (c ∷ s)))
    go true e = refl
    go false e = ap (glue b) e

-- the first line of a written text is the first that was written
pub lines_hex : (xs rest : List ℕ) → lines (hex xs ++ 10 ∷ rest) ≡ hex_line xs ∷ lines rest
unfolding lines hex
lines_hex [] rest = refl
lines_hex (x ∷ xs) rest = rw (no_end (x / 16), no_end (x % 16), lines_hex xs rest)

-- the numbers of a text's first line are those that the text starts with
pub numbers_first : (s : List ℕ) → numbers_of (first_line s) ≡ numbers_of s
unfolding numbers_of first_line
numbers_first [] = refl
numbers_first (a ∷ []) = go (eqb a 10)
  where
    go : (t : Bool) → numbers_of (a ∷ cond t [] []) ≡ numbers_of (a ∷ [])
    go true = refl
    go false = refl
numbers_first (a ∷ b ∷ s) = go (eqb a 10) refl (eqb b 10) refl (numbers_first s)
  where
    go : (t : Bool) → eqb a 10 ≡ t → (u : Bool) → eqb b 10 ≡ u → numbers_of (first_line s) ≡ numbers_of s
        → numbers_of (a ∷ cond t [] (b ∷ cond u [] (first_line s))) ≡ numbers_of (a ∷ b ∷ s)
    go true e u f h = rw e
    go false e true f h = rw (e, no_digit a b f)
    go false e false f h = rw (e, h)

-- the next line starts past the digits of this one's numbers and its 0A
pub after_numbers : (s xs : List ℕ) → numbers_of s ≡ some xs → after_line s ≡ drop (2 * length xs + 1) s
after_numbers s xs h = go s (text_of s xs h).0
  where
    go : (t : List ℕ) → t ≡ hex xs ++ 10 ∷ after_line s → after_line s ≡ drop (2 * length xs + 1) t
    go t e =
        let n : length (hex_line xs) ≡ 2 * length xs + 1 = simp (length-append, length_hex) in
        let w : t ≡ hex_line xs ++ after_line s = e ∙ sym (append_assoc (hex xs) (10 ∷ []) (after_line s)) in
        rw w (sym (drop_at (hex_line xs) (after_line s) (2 * length xs + 1) n))
