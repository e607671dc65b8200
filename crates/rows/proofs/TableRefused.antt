-- What a table is refused for: the first faulty pair decides.
use Prim.Native.Nat.{ℕ, zero, suc, ◌≤◌}
use mathlib.Core.Path.{◌≡◌, refl, ap}
use mathlib.Core.Logic.{◌⊎◌, inl, inr, ⊎_elim, ◌≢◌}
use mathlib.Core.Bool.{Bool, true, false, cond}
use mathlib.Core.List.{List, [], ◌∷◌, Memᴰ}
use native.Mathlib.Omega.{arith}
use lib.Dec.{eqb}
use borrow.Author.Tests.{eqb-true, eqb-false}
use Rattle.rows.specs.Rows.{TableRow, Pair, times_met, pair_refusal, table_refusal, faulty_pair}

-- ---- one pair

once : (n : ℕ) → pair_refusal n ≡ 0 → n ≡ 1
once zero e = absurd (omega arith)
once (suc zero) e = refl
once (suc (suc n)) e = absurd (omega arith)

number : (n : ℕ) → (pair_refusal n ≡ 0) ⊎ ((pair_refusal n ≡ 19) ⊎ (pair_refusal n ≡ 20))
number zero = inr (inl refl)
number (suc zero) = inl refl
number (suc (suc n)) = inr (inr refl)

-- ---- by whether the first pair is faulty

pub by_pair : (P : ℕ → Pair → Type 0) (rs : List TableRow) (p : Pair) (ps : List Pair) → (times_met p rs ≡ 1 → P (table_refusal rs ps) (faulty_pair rs ps))
    → (pair_refusal (times_met p rs) ≢ 0 → P (pair_refusal (times_met p rs)) p) → P (table_refusal rs (p ∷ ps)) (faulty_pair rs (p ∷ ps))
unfolding table_refusal faulty_pair
by_pair P rs p ps clean faulty = go (eqb (pair_refusal (times_met p rs)) 0) refl
  where
    go : (b : Bool) → eqb (pair_refusal (times_met p rs)) 0 ≡ b
        → P (cond b (table_refusal rs ps) (pair_refusal (times_met p rs))) (cond b (faulty_pair rs ps) p)
    go true e = clean (once (times_met p rs) (eqb-true (pair_refusal (times_met p rs)) 0 e))
    go false e = faulty (eqb-false (pair_refusal (times_met p rs)) 0 e)

pub faulty-pair : (rs : List TableRow) (p : Pair) (ps : List Pair) → pair_refusal (times_met p rs) ≢ 0
    → (table_refusal rs (p ∷ ps) ≡ pair_refusal (times_met p rs)) × (faulty_pair rs (p ∷ ps) ≡ p)
faulty-pair rs p ps f =
    by_pair (λ n x. (n ≡ pair_refusal (times_met p rs)) × (x ≡ p)) rs p ps (λ t. absurd (f (ap pair_refusal t))) (λ g. (refl, refl))

pub clean_pair : (rs : List TableRow) (p : Pair) (ps : List Pair) → pair_refusal (times_met p rs) ≡ 0
    → (table_refusal rs (p ∷ ps) ≡ table_refusal rs ps) × (faulty_pair rs (p ∷ ps) ≡ faulty_pair rs ps)
clean_pair rs p ps e =
    by_pair (λ n x. (n ≡ table_refusal rs ps) × (x ≡ faulty_pair rs ps)) rs p ps (λ t. (refl, refl)) (λ f. absurd (f e))

-- ---- each pair of a table that is accepted is met by one row

pub clean : (rs : List TableRow) (ps : List Pair) {p : Pair} → table_refusal rs ps ≡ 0 → Memᴰ p ps → times_met p rs ≡ 1
clean rs [] e m = elim m [ ]
clean rs (x ∷ ps) e (Memᴰ.head d) =
    rw d (by_pair (λ n y. n ≡ 0 → times_met x rs ≡ 1) rs x ps (λ t k. t) (λ f k. absurd (f k)) e)
clean rs (x ∷ ps) e (Memᴰ.tail m) =
    clean rs ps (by_pair (λ n y. n ≡ 0 → table_refusal rs ps ≡ 0) rs x ps (λ t k. k) (λ f k. absurd (f k)) e) m

-- ---- the numbers of the refusals

pub refusal_number : (rs : List TableRow) (ps : List Pair)
    → (table_refusal rs ps ≡ 0) ⊎ ((table_refusal rs ps ≡ 19) ⊎ (table_refusal rs ps ≡ 20))
unfolding table_refusal
refusal_number rs [] = inl refl
refusal_number rs (p ∷ ps) =
    by_pair (λ n x. (n ≡ 0) ⊎ ((n ≡ 19) ⊎ (n ≡ 20))) rs p ps (λ t. refusal_number rs ps) (λ f. number (times_met p rs))

pub refusal_small : (rs : List TableRow) (ps : List Pair) → table_refusal rs ps ≤ 20
refusal_small rs ps = ⊎_elim (λ e. omega arith) (⊎_elim (λ e. omega arith) (λ e. omega arith)) (refusal_number rs ps)

pub refusal_large : (rs : List TableRow) (ps : List Pair) → table_refusal rs ps ≢ 0 → 19 ≤ table_refusal rs ps
refusal_large rs ps f = ⊎_elim (λ e. absurd (f e)) (⊎_elim (λ e. omega arith) (λ e. omega arith)) (refusal_number rs ps)
