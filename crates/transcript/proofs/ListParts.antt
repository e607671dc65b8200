-- Parts of lists: counts, copies, and the line at a position.
use mathlib.Core.Path.{◌≡◌, refl, sym, ap, ◌∙◌}
use mathlib.Core.Logic.{◌⊎◌, inl, inr, ⊎_elim}
use mathlib.Core.Bool.{Bool, true, false}
use mathlib.Core.List.{List, ◌++◌}
use Prim.Native.Nat.{ℕ, ◌+◌, ◌-◌, ◌<◌, ◌≤◌, min}
use native.Mathlib.Decide.{dec_lt}
use native.Mathlib.Omega.{arith}
use lib.Dec.{ltb}
use lib.ListN.{length, take, drop, drop_of_length-le}
use lib.Seq.{take_all, take-length, drop-length, take-append_seam, length-take-le}
use borrow.Author.Tests.{ltb-true, ltb-false}
use Rattle.text.specs.Lines.{lines}
use Rattle.input.specs.Input.{file_size, first_size}
use Rattle.report.specs.Report.{Printed}
use Rattle.input.proofs.LineEnds.{line_inside, file_inside}
use Rattle.transcript.specs.Transcript.{line_at}
use Rattle.transcript.specs.Parts.{Within}

-- ---- a count of bytes

few : (n : ℕ) (l : List ℕ) → n < length l → Within n l n
few n l h = record { inside = omega arith; counted = sym (length-take-le n l (omega arith)); front = refl; rest = refl }

all : (n : ℕ) (l : List ℕ) → length l ≤ n → Within n l (length l)
all n l h =
    record {
      inside = omega arith;
      counted = ap length (sym (take-length l));
      front = take-length l ∙ sym (take_all n l h);
      rest = drop-length l ∙ sym (drop_of_length-le l h);
    }

pub counted : (n : ℕ) (l : List ℕ) → Within n l (min n (length l))
counted n l =
    elim (dec_lt n (length l)) [
      | yes h ↦ let e : min n (length l) ≡ n = omega arith in rw e (few n l h)
      | no h ↦ let e : min n (length l) ≡ length l = omega arith in rw e (all n l (omega arith))
    ]

-- ---- a copy, and a text at an output's start

pub copied : (l t : List ℕ) {c : List ℕ} {r : ℕ} → r ≡ length l → c ≡ take (length l) l ++ drop (length l) t → take r c ≡ l
copied l t n e = rw (n, e, take-length l) (take-append_seam l (drop (length l) t))

pub printed_front : (t old : List ℕ) {new : List ℕ} {r : ℕ} → Printed t old new r → take r new ≡ t
printed_front t old h = rw (h.0, h.1) (take-append_seam t (drop (length t) old))

-- ---- the line at a position: within the text, or empty

pub line-within : (s : List ℕ) (at n : ℕ) → n ≡ first_size (lines (drop at s)) → (at + n ≤ length s) ⊎ (n ≡ 0)
unfolding lines
line-within s at n e = go (ltb at (length s)) refl
  where
    go : (t : Bool) → ltb at (length s) ≡ t → (at + n ≤ length s) ⊎ (n ≡ 0)
    go true h = inl (line_inside s at n (ltb-true at (length s) h) e).1
    go false h = inr (e ∙ ap (λ (l : List ℕ). first_size (lines l)) (drop_of_length-le s (ltb-false at (length s) h)))

pub line_ends : (s : List ℕ) (at n : ℕ) → at ≤ length s → n ≡ first_size (lines (drop at s)) → at + n ≤ length s
line_ends s at n h e = ⊎_elim (λ w. w) (λ w. omega arith) (line-within s at n e)

pub line_is : (s : List ℕ) {at from n : ℕ} → Within at s from → n ≡ first_size (lines (drop from s)) → take (from + n - from) (drop from s) ≡ line_at s at
line_is s {at} {from} {n} w e = let k : from + n - from ≡ n = omega arith in rw (k, e, w.rest)

-- the file of an input, as a count
pub file_counted : (s : List ℕ) (n : ℕ) → n ≡ file_size (lines s) → (n ≤ length s) × (n ≡ length (take n s))
file_counted s n e = let h : n ≤ length s = omega (arith, file_inside s) in (h, sym (length-take-le n s h))
