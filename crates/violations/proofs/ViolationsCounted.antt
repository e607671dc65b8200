-- Passes over the marks: counts, and the search for a violation.
use mathlib.Core.Path.{◌≡◌, refl, ◌∙◌}
use mathlib.Core.Bool.{Bool, true, false, cond}
use mathlib.Core.List.{List, [], ◌∷◌}
use Prim.Native.Nat.{ℕ, zero, suc, ◌+◌, ◌-◌, ◌≤◌, ◌<◌}
use native.Mathlib.Numerals.{add-one}
use native.Mathlib.Omega.{arith}
use lib.ListN.{length, drop, get_or, drop_of_length-le}
use lib.Seq.{drop-cons}
use borrow.Author.Tests.{le-leb, lt-leb}
use Rattle.program.specs.declared.sizes.Sizes.{Sizes}
use Rattle.program.specs.Program.{Program}
use Rattle.reach.specs.Marks.{violates, front_when, violations_from, first_from}
use Rattle.std.specs.List.{filter, find, range_with_len}
use Rattle.std.specs.Prelude.{Option, Some}
use mathlib.Core.Option.{some, none}
use Rattle.violations.specs.Views.{option_view}

-- what is below low is no answer
skip : (low : ℕ) (t : Bool) (i : ℕ) (is : List ℕ) → i < low → first_from low (front_when t i is) ≡ first_from low is
unfolding first_from
skip low true i is h = rw (lt-leb low i h)
skip low false i is h = refl

module _ (Z : Sizes) where
  -- the numbers from i on that pass the test are the violations from there
  pub violations_kept : (p : Program) (l : List ℕ) (k i : ℕ) → i + k ≡ length l
      → filter (λ j. violates Z p (get_or l j 0) j) (range_with_len i k) ≡ violations_from Z p (drop i l) i
  unfolding violations_from
  violations_kept p l zero i e = let h : length l ≤ i = omega arith in rw (drop_of_length-le l h) refl
  violations_kept p l (suc k) i e =
      let t : Bool = violates Z p (get_or l i 0) i in
      let h : i < length l = omega arith in
      rw (drop-cons l i 0 h, violations_kept p l k (i + 1) (omega arith), add-one i) (front t i _)
    where
      front : (t : Bool) (i : ℕ) (is : List ℕ) → cond t (i ∷ is) is ≡ front_when t i is
      front true i is = refl
      front false i is = refl

  -- ---- the search

  -- so the marks below low need not be tried
  start_at : (p : Program) (low k : ℕ) (l : List ℕ) (i : ℕ) → low ≡ i + k
      → first_from low (violations_from Z p l i) ≡ first_from low (violations_from Z p (drop k l) low)
  unfolding violations_from
  start_at p low zero l i e = let d : low ≡ i = omega arith in rw d
  start_at p low (suc k) [] i e = refl
  start_at p low (suc k) (b ∷ bs) i e =
      skip low (violates Z p b i) i (violations_from Z p bs (i + 1)) (omega arith) ∙ start_at p low k bs (i + 1) (omega arith)

  -- a loop tries the marks in turn: at i, those from i on decide
  pub record Sought (p : Program) (l : List ℕ) (low i : ℕ) : Type 0 where
    pub far : low ≤ i
    pub decide : first_from low (violations_from Z p l 0) ≡ first_from low (violations_from Z p (drop i l) i)

  pub sought_none : (p : Program) (l : List ℕ) (low : ℕ) → Sought p l low low
  sought_none p l low = record { far = omega arith; decide = start_at p low low l 0 (omega arith) }

  module _ {p : Program} {l : List ℕ} {low i : ℕ} (s : Sought p l low i) where
    next_mark : i < length l → first_from low (violations_from Z p l 0)
        ≡ first_from low (front_when (violates Z p (get_or l i 0) i) i (violations_from Z p (drop (i + 1) l) (i + 1)))
    unfolding violations_from
    next_mark h = rw (s.decide, drop-cons l i 0 h, add-one)

    pub sought_here : i < length l → violates Z p (get_or l i 0) i ≡ true → first_from low (violations_from Z p l 0) ≡ some i
    unfolding first_from
    sought_here h e = rw (next_mark h, e, le-leb low i s.far)

    pub sought_more : i < length l → violates Z p (get_or l i 0) i ≡ false → Sought p l low (i + 1)
    sought_more h e = record { far = omega (arith, s.far); decide = rw e at (next_mark h) }

    pub sought_all : length l ≤ i → first_from low (violations_from Z p l 0) ≡ none
    unfolding first_from violations_from
    sought_all h = rw (s.decide, drop_of_length-le l h)

  -- so the first of k numbers from i on that passes the test decides
  module _ (p : Program) (l : List ℕ) (low : ℕ) where
    abbrev found : ℕ → ℕ → Option ℕ
    found k i = find (λ j. violates Z p (get_or l j 0) j) (range_with_len i k)

    abbrev Decides : Option ℕ → Type 0
    Decides o = first_from low (violations_from Z p l 0) ≡ option_view o

    decides_step : (k i : ℕ) (t : Bool) → violates Z p (get_or l i 0) i ≡ t → i < length l → Sought p l low i
        → (Sought p l low (i + 1) → Decides (found k (i + 1))) → Decides (cond t (Some i) (found k (i + 1)))
    decides_step k i true e h s next = sought_here s h e
    decides_step k i false e h s next = next (sought_more s h e)

    pub sought_first : (k i : ℕ) → length l - i ≡ k → Sought p l low i → Decides (found k i)
    sought_first zero i e s = sought_all s (omega arith)
    sought_first (suc k) i e s =
        decides_step k i (violates Z p (get_or l i 0) i) refl (omega arith) s (sought_first k (i + 1) (omega arith))
