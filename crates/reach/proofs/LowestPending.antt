-- The lowest number that is pending.
use mathlib.Core.Path.{◌≡◌, refl, sym}
use mathlib.Core.Bool.{Bool, true, false}
use mathlib.Core.Option.{Option, none, some, none-ne-some, some-injective}
use mathlib.Core.List.{List, [], ◌∷◌}
use Prim.Native.Nat.{ℕ, zero, suc, ◌+◌}
use native.Mathlib.Omega.{arith}
use lib.Dec.{eqb}
use borrow.Author.Tests.{eqb-true, eqb-false}
use Rattle.base.specs.Flags.{On}
use Rattle.reach.specs.Worklist.{lowest}

record Found (l : List ℕ) (i k : ℕ) : Type 0 where
  past : ℕ
  is : k ≡ i + past
  found : On l past

found_at : (l : List ℕ) (i k : ℕ) → lowest l i ≡ some k → Found l i k
unfolding lowest
found_at [] i k h = absurd (none-ne-some k h)
found_at (b ∷ bs) i k h = go (λ x. found_at bs (i + 1) k x) (eqb b 0) refl h
  where
    go : (lowest bs (i + 1) ≡ some k → Found bs (i + 1) k) → (t : Bool) → eqb b 0 ≡ t
        → (elim t as (λ x. Option ℕ) [ true ↦ lowest bs (i + 1) | false ↦ some i ]) ≡ some k → Found (b ∷ bs) i k
    go below true e h = let z = below h in let w = z.is in record { past = suc z.past; is = omega arith; found = record { on = z.found.on } }
    go below false e h = record { past = 0; is = omega (arith, some-injective i k h); found = record { on = eqb-false b 0 e } }

pub lowest_on : (l : List ℕ) (i : ℕ) → lowest l 0 ≡ some i → On l i
lowest_on l i h = let z = found_at l 0 i h in let e : i ≡ z.past = omega (arith, z.is) in rw e z.found

none_from : (l : List ℕ) (i : ℕ) → lowest l i ≡ none → (j : ℕ) → ¬ (On l j)
unfolding lowest
none_from [] i h j x = x.on refl
none_from (b ∷ bs) i h j x = go (λ y. none_from bs (i + 1) y) (eqb b 0) refl h j x
  where
    go : (lowest bs (i + 1) ≡ none → (j : ℕ) → ¬ (On bs j)) → (t : Bool) → eqb b 0 ≡ t
        → ◌≡◌ {A = Option ℕ} (elim t as (λ x. Option ℕ) [ true ↦ lowest bs (i + 1) | false ↦ some i ]) none → (j : ℕ) → ¬ (On (b ∷ bs) j)
    go below true e h zero x = x.on (eqb-true b 0 e)
    go below true e h (suc j) x = below h j (record { on = x.on })
    go below false e h j x = none-ne-some i (sym h)

pub lowest_none : (l : List ℕ) → lowest l 0 ≡ none → (j : ℕ) → ¬ (On l j)
lowest_none l h = none_from l 0 h
