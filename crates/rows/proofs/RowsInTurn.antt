-- The loop that asks of a pair which rows meet it: what one row more says.
use Prim.Native.Nat.{ℕ, ◌+◌}
use mathlib.Core.Path.{◌≡◌, refl}
use mathlib.Core.Logic.{◌≢◌}
use mathlib.Core.Bool.{Bool, true, false, cond, ◌&&◌}
use mathlib.Core.List.{List, [], ◌∷◌, ◌++◌}
use native.Mathlib.Omega.{arith}
use lib.Dec.{eqb}
use borrow.Author.Tests.{eqb-true, eqb-false}
use Rattle.rows.specs.Rows.{TableRow, Pair, meets, times_met, next_state}

module _ (p : Pair) where
  pub times_more : (rs : List TableRow) (r : TableRow) → times_met p (rs ++ r ∷ []) ≡ times_met p rs + cond (meets p r) 1 0
  unfolding times_met
  times_more [] r = omega arith
  times_more (x ∷ rs) r = omega (arith, times_more rs r)

  -- a row that does not meet the pair says nothing, nor does one after the first that does
  pub next_unmet : (rs : List TableRow) (r : TableRow) → meets p r ≡ false → next_state p (rs ++ r ∷ []) ≡ next_state p rs
  unfolding next_state
  next_unmet [] r e = rw e
  next_unmet (x ∷ rs) r e = rw (next_unmet rs r e)

  pub next_later : (rs : List TableRow) (r : TableRow) → times_met p rs ≢ 0 → next_state p (rs ++ r ∷ []) ≡ next_state p rs
  unfolding next_state times_met
  next_later [] r h = absurd (h refl)
  next_later (x ∷ rs) r h = go (meets p x) (next_later rs r) h
    where
      go : (b : Bool) {n : ℕ} → (times_met p rs ≢ 0 → n ≡ next_state p rs) → cond b 1 0 + times_met p rs ≢ 0 → cond b x.next n ≡ cond b x.next (next_state p rs)
      go true f h = refl
      go false f h = f (λ e. h (rw e))

  pub next_first : (rs : List TableRow) (r : TableRow) → meets p r ≡ true → times_met p rs ≡ 0 → next_state p (rs ++ r ∷ []) ≡ r.next
  unfolding next_state times_met
  next_first [] r e h = rw e
  next_first (x ∷ rs) r e h = go (meets p x) (next_first rs r e) h
    where
      go : (b : Bool) {n : ℕ} → (times_met p rs ≡ 0 → n ≡ r.next) → cond b 1 0 + times_met p rs ≡ 0 → cond b x.next n ≡ r.next
      go true f h = absurd (omega arith)
      go false f h = f (omega arith)

  -- what one row more says: its next state where it is the first that meets the pair
  pub next_more : (rs : List TableRow) (r : TableRow) → next_state p (rs ++ r ∷ []) ≡ cond (meets p r && eqb (times_met p rs) 0) r.next (next_state p rs)
  next_more rs r = go (meets p r) refl (eqb (times_met p rs) 0) refl
    where
      go : (b : Bool) → meets p r ≡ b → (t : Bool) → eqb (times_met p rs) 0 ≡ t → next_state p (rs ++ r ∷ []) ≡ cond (b && t) r.next (next_state p rs)
      go true e true h = next_first rs r e (eqb-true (times_met p rs) 0 h)
      go true e false h = next_later rs r (eqb-false (times_met p rs) 0 h)
      go false e t h = next_unmet rs r e
