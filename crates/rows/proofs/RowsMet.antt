-- The rows that meet a pair: how many, and the next state that they say.
use Prim.Native.Nat.{ℕ, ◌+◌, ◌<◌}
use mathlib.Core.Path.{◌≡◌, refl, sym, ap, ◌∙◌}
use mathlib.Core.Bool.{Bool, true, false, cond}
use mathlib.Core.List.{List, [], ◌∷◌, Memᴰ}
use native.Mathlib.Omega.{arith}
use native.Mathlib.Nat.{zero-add}
use Rattle.base.proofs.Bools.{never}
use Rattle.rows.specs.Rows.{TableRow, Pair, meets, times_met, next_state}

module _ (p : Pair) where
  -- by whether the first row meets it
  pub by_row : (P : ℕ → ℕ → Type 0) (r : TableRow) (rs : List TableRow) → (meets p r ≡ true → P (1 + times_met p rs) r.next)
      → (meets p r ≡ false → P (times_met p rs) (next_state p rs)) → P (times_met p (r ∷ rs)) (next_state p (r ∷ rs))
  unfolding times_met next_state
  by_row P r rs hit miss = go (meets p r) refl
    where
      go : (b : Bool) → meets p r ≡ b → P (cond b 1 0 + times_met p rs) (cond b r.next (next_state p rs))
      go true e = hit e
      go false e = rw (zero-add (times_met p rs)) (miss e)

  -- the first row that meets a pair says its next state
  pub first_row : (rs : List TableRow) → 0 < times_met p rs
      → (r : TableRow) × Memᴰ r rs × (meets p r ≡ true) × (r.next ≡ next_state p rs)
  unfolding times_met
  first_row [] h = absurd (omega arith)
  first_row (x ∷ rs) h =
      by_row (λ n s. 0 < n → (r : TableRow) × Memᴰ r (x ∷ rs) × (meets p r ≡ true) × (r.next ≡ s)) x rs
      (λ e k. (x, Memᴰ.head refl, e, refl))
      (λ e k. let z = first_row rs k in (z.0, Memᴰ.tail z.1, z.2, z.3))
      h

  pub row_counts : (rs : List TableRow) {r : TableRow} → Memᴰ r rs → meets p r ≡ true → 0 < times_met p rs
  row_counts [] m e = elim m [ ]
  row_counts (x ∷ rs) (Memᴰ.head d) e =
      by_row (λ n s. 0 < n) x rs (λ f. omega arith) (λ f. never (sym (ap (meets p) d) ∙ e) f)
  row_counts (x ∷ rs) (Memᴰ.tail m) e =
      let k = row_counts rs m e in
      by_row (λ n s. 0 < n) x rs (λ f. omega arith) (λ f. k)

  -- of a pair that is met once, every row that meets it says the next state
  pub only_row : (rs : List TableRow) {r : TableRow} → times_met p rs ≡ 1 → Memᴰ r rs → meets p r ≡ true → r.next ≡ next_state p rs
  only_row [] t m e = elim m [ ]
  only_row (x ∷ rs) {r} t (Memᴰ.head d) e =
      by_row (λ n s. n ≡ 1 → r.next ≡ s) x rs (λ f k. ap (λ (y : TableRow). y.next) d) (λ f k. never (sym (ap (meets p) d) ∙ e) f) t
  only_row (x ∷ rs) {r} t (Memᴰ.tail m) e =
      by_row (λ n s. n ≡ 1 → r.next ≡ s) x rs (λ f k. absurd (omega (arith, row_counts rs m e))) (λ f k. only_row rs k m e) t

  -- ---- a bound on the next states of the rows bounds that of a pair

  pub next_fits : (n : ℕ) (rs : List TableRow) → ((r : TableRow) → Memᴰ r rs → r.next < n) → 0 < times_met p rs → next_state p rs < n
  next_fits n rs h k = let z = first_row rs k in rw (← z.3) (h z.0 z.1)

  -- also where no row meets it
  pub next_below : (n : ℕ) (rs : List TableRow) → ((r : TableRow) → Memᴰ r rs → r.next < n) → 0 < n → next_state p rs < n
  unfolding next_state
  next_below n [] h k = k
  next_below n (x ∷ rs) h k =
      by_row (λ m s. s < n) x rs (λ e. h x (Memᴰ.head refl)) (λ e. next_below n rs (λ r m. h r (Memᴰ.tail m)) k)
