-- The numbers of the bytes that are set: as many as are counted, ascending, and just those.
use mathlib.Core.Path.{◌≡◌, refl}
use mathlib.Core.Logic.{◌↔◌, ◌⊎◌, inl, inr, ⊎_elim}
use mathlib.Core.Bool.{Bool, true, false, cond, not}
use mathlib.Core.List.Memᴰ
use mathlib.Core.List.{List, [], ◌∷◌, map, Memᴰ}
use Prim.Native.Nat.{ℕ, zero, suc, ◌+◌, ◌≤◌}
use native.Mathlib.Omega.{arith}
use lib.Dec.{eqb}
use lib.ListN.{length}
use borrow.Author.Tests.{eqb-false, ne_eqb, not-true}
use Rattle.base.specs.Flags.{On, count_set}
use Rattle.base.proofs.Bools.{never}
use Rattle.tables.specs.Keys.{Ascending}
use Rattle.reach.specs.Marks.{front_when}
use Rattle.saved.specs.Saved.{set_from}

-- ---- as many as are counted

front_length : (t : Bool) (i : ℕ) (vs : List ℕ) {n : ℕ} → length vs ≡ n → length (front_when (not t) i vs) ≡ cond t 0 1 + n
front_length true i vs e = omega arith
front_length false i vs e = omega arith

pub length-set : (l : List ℕ) (i : ℕ) → length (set_from l i) ≡ count_set l
unfolding set_from count_set
length-set [] i = refl
length-set (b ∷ bs) i = front_length (eqb b 0) i (set_from bs (i + 1)) (length-set bs (i + 1))

-- ---- ascending, each with 1 added, since keys start above 0

abbrev pub places : List ℕ → List ℕ
places vs = map (λ i. i + 1) vs

front_ascends : (t : Bool) (low i : ℕ) (vs : List ℕ) → low ≤ i → Ascending low (places vs) → Ascending (i + 1) (places vs)
    → Ascending low (places (front_when t i vs))
unfolding Ascending
front_ascends true low i vs h a b = (omega arith, b)
front_ascends false low i vs h a b = a

pub set_ascends : (l : List ℕ) (low i : ℕ) → low ≤ i → Ascending low (places (set_from l i))
unfolding set_from Ascending
set_ascends [] low i h = tt
set_ascends (b ∷ bs) low i h =
    front_ascends (not (eqb b 0)) low i (set_from bs (i + 1)) h (set_ascends bs low (i + 1) (omega arith)) (set_ascends bs (i + 1) (i + 1) (omega arith))

-- ---- just those

in_front : (t : Bool) {i j : ℕ} {vs : List ℕ} → Memᴰ j (front_when t i vs) → ((t ≡ true) × (j ≡ i)) ⊎ Memᴰ j vs
in_front true (Memᴰ.head e) = inl (refl, e)
in_front true (Memᴰ.tail m) = inr m
in_front false m = inr m

front_in : (t : Bool) {i j : ℕ} {vs : List ℕ} → ((t ≡ true) × (j ≡ i)) ⊎ Memᴰ j vs → Memᴰ j (front_when t i vs)
front_in true (inl h) = Memᴰ.head h.1
front_in true (inr m) = Memᴰ.tail m
front_in false (inl h) = never h.0 refl
front_in false (inr m) = m

-- the list has the bytes of the numbers from i on
found : (l : List ℕ) (i : ℕ) {j : ℕ} → Memᴰ j (set_from l i) → (k : ℕ) × (j ≡ i + k) × On l k
unfolding set_from
found [] i m = elim m [ ]
found (b ∷ bs) i m =
    ⊎_elim
    (λ h. (0, omega arith, record { on = eqb-false b 0 (not-true (eqb b 0) h.0) }))
    (λ n. let x = found bs (i + 1) n in (suc x.0, omega (arith, x.1), record { on = x.2.on }))
    (in_front (not (eqb b 0)) m)

listed : (l : List ℕ) (i k : ℕ) → On l k → Memᴰ (i + k) (set_from l i)
unfolding set_from
listed [] i k o = absurd (o.on refl)
listed (b ∷ bs) i zero o = front_in (not (eqb b 0)) (inl (rw (ne_eqb b 0 o.on) refl, omega arith))
listed (b ∷ bs) i (suc k) o =
    front_in (not (eqb b 0)) (inr (Memᴰ.cast (omega arith) (listed bs (i + 1) k (record { on = o.on }))))

pub listed_iff : (l : List ℕ) (i : ℕ) → Memᴰ i (set_from l 0) ↔ On l i
listed_iff l i = (
  λ m. let x = found l 0 m in let e : x.0 ≡ i = omega (arith, x.1) in rw e at x.2,
  λ o. Memᴰ.cast (omega arith) (listed l 0 i o),
)
