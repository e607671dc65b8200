-- The search for the lowest pending number.
use Prim.Native.Nat.{ℕ, zero, suc, ◌+◌, ◌≤◌, ◌<◌}
use mathlib.Core.Path.{◌≡◌, refl, sym, ap, ◌∙◌}
use mathlib.Core.Logic.{◌↔◌}
use mathlib.Core.Bool.{Bool, true, false, cond}
use mathlib.Core.Option.{some, none, none-ne-some}
use mathlib.Core.List.{List, [], ◌∷◌}
use native.Mathlib.Omega.{arith}
use lib.Dec.{ltb, leb}
use lib.ListN.{length, get_or, take}
use lib.Seq.{length-take-le}
use borrow.Author.Tests.{eq-eqb, ne_eqb, ltb-true, ltb-false, le-ltb, leb-true, le-leb}
use Rattle.reach.specs.Worklist.{lowest}
use Rattle.reach.specs.Marks.{within}
use Rattle.words.specs.Words.{FirstFlag}
use Rattle.words.proofs.FlagsOfPart.{take_at}

found_at : (l : List ℕ) (x r : ℕ) → ((j : ℕ) → j < r → get_or l j 0 ≡ 0) → r < length l → (get_or l r 0 ≡ 0 → ⊥) → lowest l x ≡ some (x + r)
unfolding lowest
found_at [] x r z h e = absurd (omega arith)
found_at (b ∷ l) x zero z h e = rw (lowest, ne_eqb b 0 e) (let y : x ≡ x + 0 = omega arith in ap some y)
found_at (b ∷ l) x (suc r) z h e =
    let y : x + 1 + r ≡ x + suc r = omega arith in
    rw (lowest, eq-eqb b 0 (z 0 (omega arith))) (found_at l (x + 1) r (λ j i. z (suc j) (omega arith)) (omega arith) e ∙ ap some y)

not_found : (l : List ℕ) (x : ℕ) → ((j : ℕ) → j < length l → get_or l j 0 ≡ 0) → lowest l x ≡ none
unfolding lowest
not_found [] x z = refl
not_found (b ∷ l) x z = rw (lowest, eq-eqb b 0 (z 0 (omega arith))) (not_found l (x + 1) (λ j i. z (suc j) (omega arith)))

-- the first flag that is set is the lowest number that is pending, of the first n
pub first_lowest : (l : List ℕ) (n r : ℕ) → n ≤ length l → FirstFlag l r → lowest (take n l) 0 ≡ within n r
first_lowest l n r size f = go (ltb r n) refl
  where
    len : length (take n l) ≡ n
    len = length-take-le n l size

    go : (b : Bool) → ltb r n ≡ b → lowest (take n l) 0 ≡ cond b (some r) none
    go true e =
        let h = ltb-true r n e in
        let k = f.found (omega arith) in
        let y : 0 + r ≡ r = omega arith in
        found_at (take n l) 0 r (λ j i. take_at n l j (omega arith) ∙ f.below.none_below j i) (omega (arith, len))
        (λ z. omega (arith, take_at n l r h)) ∙ ap some y
    go false e =
        let h = ltb-false r n e in
        not_found (take n l) 0 (λ j i. take_at n l j (omega (arith, len)) ∙ f.below.none_below j (omega (arith, len)))

-- nothing is pending exactly when what was found is past the end
pub done_is : (l : List ℕ) (n r : ℕ) → lowest l 0 ≡ within n r → (leb n r ≡ true) ↔ (lowest l 0 ≡ none)
done_is l n r e = (
  λ h. e ∙ rw (le-ltb r n (leb-true n r h)),
  λ h. le-leb n r (ltb-false r n (go (ltb r n) refl (sym h ∙ e))),
)
  where
    go : (t : Bool) → ltb r n ≡ t → none ≡ cond t (some r) none → ltb r n ≡ false
    go true h x = absurd (none-ne-some r x)
    go false h x = h
