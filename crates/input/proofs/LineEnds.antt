-- Where a line ends, and where the file does.
use mathlib.Core.Path.{◌≡◌, refl, sym, ap, ◌∙◌}
use mathlib.Core.Logic.{◌≢◌}
use mathlib.Core.Bool.{Bool, true, false, cond, ◌&&◌, and-true}
use mathlib.Core.List.{List, [], ◌∷◌}
use Prim.Native.Nat.{ℕ, suc, ◌+◌, ◌-◌, ◌<◌, ◌≤◌}
use native.Mathlib.Numerals.{add-one}
use native.Mathlib.Omega.{arith}
use native.Mathlib.Decide.{ℕ_discrete}
use lib.Dec.{eqb}
use lib.ListN.{length, get_or, take, drop, length-drop, drop_of_length-le}
use lib.Seq.{drop-cons, drop-drop}
use borrow.Author.Tests.{eqb-true, eq-eqb, ne_eqb}
use Rattle.std.specs.Cmp.Lexicographic.{pointwise}
use Rattle.base.proofs.Bools.{same_test}
use Rattle.text.specs.Lines.{glue, lines, first_line}
use Rattle.text.proofs.LinesSplit.{lines_first, after_line}
use Rattle.input.specs.Input.{starts_end, file_size, first_size}

-- ---- the first line

after_first : (s : List ℕ) → after_line s ≡ drop (length (first_line s)) s
unfolding first_line after_line
after_first [] = refl
after_first (b ∷ s) = go (eqb b 10) (after_first s)
  where
    go : (t : Bool) → after_line s ≡ drop (length (first_line s)) s → cond t s (after_line s) ≡ drop (length (b ∷ cond t [] (first_line s))) (b ∷ s)
    go true e = refl
    go false e = e

first_taken : (s : List ℕ) → first_line s ≡ take (length (first_line s)) s
unfolding first_line
first_taken [] = refl
first_taken (b ∷ s) = go (eqb b 10) (first_taken s)
  where
    go : (t : Bool) → first_line s ≡ take (length (first_line s)) s → b ∷ cond t [] (first_line s) ≡ take (length (b ∷ cond t [] (first_line s))) (b ∷ s)
    go true e = refl
    go false e = ap (λ (l : List ℕ). b ∷ l) e

first_short : (s : List ℕ) → length (first_line s) ≤ length s
unfolding first_line
first_short [] = omega arith
first_short (b ∷ s) = go (eqb b 10) (first_short s)
  where
    go : (t : Bool) → length (first_line s) ≤ length s → length (b ∷ cond t [] (first_line s)) ≤ length (b ∷ s)
    go true e = omega arith
    go false e = omega arith

first-size : (s : List ℕ) → first_size (lines s) ≡ length (first_line s)
unfolding lines first_line
first-size [] = refl
first-size (b ∷ s) = ap first_size (lines_first b s)

first_byte : (s : List ℕ) → get_or (first_line s) 0 0 ≡ get_or s 0 0
unfolding first_line
first_byte [] = refl
first_byte (b ∷ s) = refl

-- ---- whether a line starts with 45

starts_so : (b : ℕ) (s : List ℕ) → eqb b 0x34 && eqb (get_or s 0 0) 0x35 ≡ starts_end (first_line (b ∷ s))
unfolding first_line
starts_so b s = go (eqb b 0x34) refl
  where
    go : (t : Bool) → eqb b 0x34 ≡ t → eqb b 0x34 && eqb (get_or s 0 0) 0x35 ≡ eqb b 0x34 && eqb (get_or (cond (eqb b 10) [] (first_line s)) 0 0) 0x35
    go true e = let n : eqb b 10 ≡ false = rw (eqb-true b 0x34 e) in rw (n, first_byte s)
    go false e = rw e

swapped : (a b : ℕ) → eqb a b ≡ eqb b a
swapped a b =
    same_test (eqb a b) (eqb b a) (λ h. eq-eqb b a (sym (eqb-true a b h))) (λ h. eq-eqb a b (sym (eqb-true b a h)))

-- a text starts with 45 just where its first line does
pub starts_with_end : (s : List ℕ) → pointwise eqb (0x34 ∷ 0x35 ∷ []) (take 2 s) ≡ starts_end (first_line s)
unfolding first_line
starts_with_end [] = refl
starts_with_end (b ∷ []) = rw (swapped 0x34 b) (starts_so b [])
starts_with_end (b ∷ c ∷ s) = rw (swapped 0x34 b, swapped 0x35 c, and-true (eqb c 0x35)) (starts_so b (c ∷ s))

-- ---- the length of a line: a loop goes on to its 0A

one_on : (s : List ℕ) (i : ℕ) → i < length s → (t : Bool) → eqb (get_or s i 0) 10 ≡ t
    → length (first_line (drop i s)) ≡ 1 + cond t 0 (length (first_line (drop (i + 1) s)))
unfolding first_line
one_on s i h true e = rw (drop-cons s i 0 h, e)
one_on s i h false e = let w : length (cond false [] (first_line (drop (suc i) s))) ≡ length (first_line (drop (i + 1) s)) = rw add-one in rw (drop-cons s i 0 h, e) (omega arith)

-- the line that starts at `from` goes on to i, and then has what the text at i starts with
pub record Within (s : List ℕ) (from i : ℕ) : Type 0 where
  pub far : from ≤ i
  pub whole : i + length (first_line (drop i s)) ≡ from + first_size (lines (drop from s))

pub within_start : (s : List ℕ) (from : ℕ) → Within s from from
within_start s from = record { far = omega arith; whole = rw first-size }

module _ {s : List ℕ} {from i : ℕ} (w : Within s from i) where
  pub within_more : i < length s → get_or s i 0 ≢ 10 → Within s from (i + 1)
  within_more h n = record { far = omega (arith, w.far); whole = omega (arith, w.whole, one_on s i h false (ne_eqb (get_or s i 0) 10 n)) }

  pub within_stop : i < length s → get_or s i 0 ≡ 10 → i + 1 - from ≡ first_size (lines (drop from s))
  within_stop h n = omega (arith, w.far, w.whole, one_on s i h true (eq-eqb (get_or s i 0) 10 n))

  pub within_end : length s ≤ i → (from ≤ length s → i ≤ length s) → length s - from ≡ first_size (lines (drop from s))
  unfolding first_line
  within_end h k =
      let e : length (first_line (drop i s)) ≡ 0 = rw (drop_of_length-le s h) in
      elim (ℕ_discrete (from - length s) 0) [
        | yes z ↦ omega (arith, w.whole, e, k (omega arith))
        | no z ↦
            let l : length s ≤ from = omega arith in
            let f : length (first_line (drop from s)) ≡ 0 = rw (drop_of_length-le s l) in
            omega (arith, first-size (drop from s), f)
      ]

-- ---- the length of the file: a loop takes a line after the other

file_first : (b : ℕ) (s : List ℕ) → file_size (lines (b ∷ s))
    ≡ length (first_line (b ∷ s)) + cond (starts_end (first_line (b ∷ s))) 0 (file_size (lines (drop (length (first_line (b ∷ s))) (b ∷ s))))
unfolding file_size
file_first b s = rw (lines_first b s, after_first (b ∷ s))

file_at : (s : List ℕ) (at n : ℕ) → at < length s → n ≡ length (first_line (drop at s))
    → file_size (lines (drop at s)) ≡ n + cond (starts_end (first_line (drop at s))) 0 (file_size (lines (drop (at + n) s)))
file_at s at n h e = rw (e, ← (drop-drop (length (first_line (drop at s))) at s), drop-cons s at 0 h) (file_first (get_or s at 0) (drop (suc at) s))

-- what is left at `at` decides where the file ends
pub record FileFrom (s : List ℕ) (at : ℕ) : Type 0 where
  pub inside : at ≤ length s
  pub whole : at + file_size (lines (drop at s)) ≡ file_size (lines s)

pub file_start : (s : List ℕ) → FileFrom s 0
file_start s = record { inside = omega arith; whole = omega arith }

-- the line at a position is not empty, and within the text
pub line_inside : (s : List ℕ) (at n : ℕ) → at < length s → n ≡ first_size (lines (drop at s)) → (0 < n) × (at + n ≤ length s)
unfolding first_line
line_inside s at n h e =
    let l : 0 < length (first_line (drop at s)) = rw (drop-cons s at 0 h) (omega arith) in
    (omega (arith, first-size (drop at s)), omega (arith, first-size (drop at s), first_short (drop at s), length-drop at s))

-- so a walk by the lengths of lines takes the lines one after the other
pub next-line : (s : List ℕ) (at n : ℕ) → at < length s → n ≡ first_size (lines (drop at s)) → lines (drop at s) ≡ take n (drop at s) ∷ lines (drop (at + n) s)
next-line s at n h e =
    let d : List ℕ = drop at s in
    let w : lines d ≡ first_line d ∷ lines (after_line d) = rw (drop-cons s at 0 h) (lines_first (get_or s at 0) (drop (suc at) s)) in
    let m : n ≡ length (first_line d) = e ∙ first-size d in
    w ∙ (λ i. first_taken d i ∷ lines (after_first d i)) ∙ rw (m, drop-drop (length (first_line d)) at s)

module _ {s : List ℕ} {at : ℕ} (w : FileFrom s at) (h : at < length s) (n : ℕ) (e : n ≡ first_size (lines (drop at s))) where
  pub file_more : starts_end (first_line (drop at s)) ≡ false → FileFrom s (at + n)
  file_more b =
      let f = rw b at (file_at s at n h (e ∙ first-size (drop at s))) in
      record { inside = (line_inside s at n h e).1; whole = omega (arith, w.whole, f) }

  pub file_stop : starts_end (first_line (drop at s)) ≡ true → at + n ≡ file_size (lines s)
  file_stop b =
      let f = rw b at (file_at s at n h (e ∙ first-size (drop at s))) in
      omega (arith, w.whole, f)

pub file_end : {s : List ℕ} {at : ℕ} → FileFrom s at → length s ≤ at → at ≡ file_size (lines s)
unfolding file_size lines
file_end {s} {at} w h =
    let e : file_size (lines (drop at s)) ≡ 0 = rw (drop_of_length-le s h) in
    omega (arith, w.whole, e)

-- ---- the file lies within its text

total : List (List ℕ) → ℕ
total [] = 0
total (l ∷ ls) = length l + total ls

lines_total : (s : List ℕ) → total (lines s) ≡ length s
unfolding lines total
lines_total [] = refl
lines_total (b ∷ s) = go (eqb b 10) (lines s) (lines_total s)
  where
    go : (t : Bool) (ls : List (List ℕ)) → total ls ≡ length s → total (cond t ((b ∷ []) ∷ ls) (glue b ls)) ≡ length (b ∷ s)
    go true ls e = omega arith
    go false [] e = omega arith
    go false (l ∷ ls) e = omega arith

file_short : (ls : List (List ℕ)) → file_size ls ≤ total ls
unfolding file_size total
file_short [] = omega arith
file_short (l ∷ ls) = go (starts_end l) (file_short ls)
  where
    go : (t : Bool) → file_size ls ≤ total ls → length l + cond t 0 (file_size ls) ≤ length l + total ls
    go true h = omega arith
    go false h = omega arith

pub file_inside : (s : List ℕ) → file_size (lines s) ≤ length s
file_inside s = omega (arith, lines_total s, file_short (lines s))
