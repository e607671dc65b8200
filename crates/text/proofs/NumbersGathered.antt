-- The numbers of a line, gathered from the front as the code does it.
use mathlib.Core.Path.{◌≡◌, refl, sym, ap, ◌∙◌}
use mathlib.Core.Option.{Option, some, none}
use mathlib.Core.List.{List, [], ◌∷◌, ◌++◌, append-nil, append_assoc}
use Prim.Native.Nat.{ℕ, zero, suc, ◌+◌, ◌*◌, ◌≤◌, ◌<◌}
use native.Mathlib.Omega.{arith}
use native.Mathlib.Numerals.{add-one}
use lib.ListN.{length, drop, set, get_or, length-append, drop_of_length-le}
use lib.Seq.{drop-cons}
use borrow.Author.Tests.{le-leb, lt-leb, ne_eqb}
use Rattle.text.specs.Hex.{two_digits}
use Rattle.text.specs.Lines.{before, numbers_of, pad, max_numbers, line_of, line_at, grown}
use Rattle.text.specs.declared.Line.{Line}

pub opened : (s : List ℕ) (i : ℕ) → i < length s → drop i s ≡ get_or s i 0 ∷ drop (i + 1) s
opened s i h = rw (add-one, drop-cons s i 0)

-- what stands at a position, and the numbers from there on
module _ (s : List ℕ) (i : ℕ) where
  pub at_end : length s ≤ i → numbers_of (drop i s) ≡ none
  unfolding numbers_of
  at_end h = rw (drop_of_length-le s h)

  pub at_stop : i < length s → get_or s i 0 ≡ 10 → numbers_of (drop i s) ≡ some []
  unfolding numbers_of
  at_stop h e = rw (opened s i h, e) (stop (drop (i + 1) s))
    where
      stop : (t : List ℕ) → numbers_of (10 ∷ t) ≡ some []
      stop [] = refl
      stop (b ∷ t) = refl

  pub at_odd : i < length s → (get_or s i 0 ≡ 10 → ⊥) → length s ≤ i + 1 → numbers_of (drop i s) ≡ none
  unfolding numbers_of
  at_odd h e k = rw (opened s i h, drop_of_length-le s k, ne_eqb _ _ e)

  pub at_bad : i < length s → (get_or s i 0 ≡ 10 → ⊥) → i + 1 < length s → 256 ≤ two_digits (get_or s i 0) (get_or s (i + 1) 0) → numbers_of (drop i s) ≡ none
  unfolding numbers_of
  at_bad h e k b = rw (opened s i h, opened s (i + 1) k, ne_eqb _ _ e, le-leb _ _ b)

  pub at_more : i < length s → (get_or s i 0 ≡ 10 → ⊥) → i + 1 < length s → two_digits (get_or s i 0) (get_or s (i + 1) 0) < 256
      → numbers_of (drop i s) ≡ before (two_digits (get_or s i 0) (get_or s (i + 1) 0)) (numbers_of (drop (i + 1 + 1) s))
  unfolding numbers_of
  at_more h e k b = rw (opened s i h, opened s (i + 1) k, ne_eqb _ _ e, lt-leb _ _ b)

abbrev prefixed : List ℕ → Option (List ℕ) → Option (List ℕ)
prefixed acc none = none
prefixed acc (some xs) = some (acc ++ xs)

prefixed_nil : (m : Option (List ℕ)) → m ≡ prefixed [] m
prefixed_nil none = refl
prefixed_nil (some xs) = refl

prefixed_before : (acc : List ℕ) (x : ℕ) (m : Option (List ℕ)) → prefixed acc (before x m) ≡ prefixed (acc ++ x ∷ []) m
prefixed_before acc x none = refl
prefixed_before acc x (some xs) = ap some (sym (append_assoc acc (x ∷ []) xs))

set_pad : (n : ℕ) (acc : List ℕ) (x : ℕ) → set (pad n acc) (length acc) x ≡ pad n (acc ++ x ∷ [])
set_pad zero [] x = refl
set_pad zero (a ∷ acc) x = refl
set_pad (suc n) [] x = refl
set_pad (suc n) (a ∷ acc) x = ap (λ (l : List ℕ). a ∷ l) (set_pad n acc x)

grown_line : (acc : List ℕ) (x : ℕ) → grown (line_of acc) x ≡ line_of (acc ++ x ∷ [])
grown_line acc x =
    let e = set_pad max_numbers acc x in
    let f : length acc + 1 ≡ length (acc ++ x ∷ []) = sym (length-append acc (x ∷ [])) in
    cc

-- the line l has the numbers from at up to i, and those from i on complete it
pub record Gathered (s : List ℕ) (at : ℕ) (l : Line) (i : ℕ) : Type 0 where
  pub gathered : List ℕ
  pub kept : l ≡ line_of gathered
  pub place : i ≡ at + 2 * length gathered
  pub completed : numbers_of (drop at s) ≡ prefixed gathered (numbers_of (drop i s))

pub starts : (s : List ℕ) (at : ℕ) → Gathered s at (line_of []) at
starts s at = record { gathered = []; kept = refl; place = omega arith; completed = prefixed_nil (numbers_of (drop at s)) }

module _ (s : List ℕ) (at : ℕ) (l : Line) (i : ℕ) (g : Gathered s at l i) where
  pub count_le : l.count ≤ i
  count_le = omega (arith, ap (λ (m : Line). m.count) g.kept, g.place)

  pub goes_on : (x : ℕ) → numbers_of (drop i s) ≡ before x (numbers_of (drop (i + 1 + 1) s)) → Gathered s at (grown l x) (i + 1 + 1)
  goes_on x e =
      record {
        gathered = g.gathered ++ x ∷ [];
        kept = rw g.kept (grown_line g.gathered x);
        place = simp length-append (omega (arith, g.place));
        completed = g.completed ∙ rw e (prefixed_before g.gathered x (numbers_of (drop (i + 1 + 1) s)));
      }

  pub stops : numbers_of (drop i s) ≡ some [] → record { line = l; next = i + 1 } ≡ line_at s at
  stops e =
      let c : numbers_of (drop at s) ≡ some g.gathered = g.completed ∙ rw (e, append-nil) in
      rw c (cc (g.kept, g.place))

  pub fails : (empty : Line) → empty ≡ line_of [] → numbers_of (drop i s) ≡ none → record { line = empty; next = 0 } ≡ line_at s at
  fails empty n e = let c : numbers_of (drop at s) ≡ none = g.completed ∙ rw e in rw (c, n)
