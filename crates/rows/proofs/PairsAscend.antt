-- The pairs ascend, by state and then by action.
use Prim.Native.Nat.{ℕ, zero, suc, ◌+◌, ◌*◌, ◌/◌, ◌%◌, ◌<◌}
use mathlib.Core.Path.{◌≡◌, ap}
use mathlib.Core.Logic.{◌⊎◌, inl, inr}
use mathlib.Core.List.{map}
use native.Mathlib.Omega.{arith}
use native.Mathlib.Decide.{ℕ_discrete}
use native.Mathlib.Nat.{add-mul, one-mul, div-add-mod', mod-lt}
use Rattle.tables.specs.Keys.{Ascending}
use Rattle.rows.specs.Rows.{Pair, pair_at, pairs_from}
use Rattle.rows.proofs.PairsComplete.{pair_number}

-- ---- the next pair: the same state and one action more, or one state more and the first action

same_state : (actions q a i : ℕ) → q * actions + a ≡ i → a + 1 < actions → pair_at actions (i + 1) ≡ record { state = q; action = a + 1 }
same_state actions q a i e h =
    let k : q * actions + (a + 1) ≡ i + 1 = omega arith in
    rw (← k) (pair_number actions q (a + 1) h)

next-state : (actions q a i : ℕ) → q * actions + a ≡ i → a + 1 ≡ actions → pair_at actions (i + 1) ≡ record { state = q + 1; action = 0 }
next-state actions q a i e h =
    let k : (q + 1) * actions + 0 ≡ i + 1 = rw (add-mul q 1 actions, one-mul actions) (omega arith) in
    rw (← k) (pair_number actions (q + 1) 0 (omega arith))

module _ (actions i : ℕ) (some : 0 < actions) where
  pub action_below : (pair_at actions i).action < actions
  action_below = mod-lt i some

  pub next_pair : (((pair_at actions (i + 1)).state ≡ (pair_at actions i).state) × ((pair_at actions (i + 1)).action ≡ (pair_at actions i).action + 1))
      ⊎ (((pair_at actions (i + 1)).state ≡ (pair_at actions i).state + 1) × ((pair_at actions (i + 1)).action ≡ 0))
  next_pair =
      let e = div-add-mod' i actions in
      let l = mod-lt i some in
      elim (ℕ_discrete (i % actions + 1) actions) [
        | yes d ↦ let p = next-state actions (i / actions) (i % actions) i e d in inr (ap (λ (x : Pair). x.state) p, ap (λ (x : Pair). x.action) p)
        | no d ↦
            let p = same_state actions (i / actions) (i % actions) i e (above (i % actions) actions l d) in
            inl (ap (λ (x : Pair). x.state) p, ap (λ (x : Pair). x.action) p)
      ]
    where
      above : (a n : ℕ) → a < n → (a + 1 ≡ n → ⊥) → a + 1 < n
      above a n h d = omega arith

-- ---- so whatever is more for the next pair ascends

pub ascending_by : (f : Pair → ℕ) (actions : ℕ) → ((i : ℕ) → f (pair_at actions i) < f (pair_at actions (i + 1)))
    → (low n i : ℕ) → low < f (pair_at actions i) → Ascending low (map f (pairs_from actions n i))
unfolding Ascending pairs_from
ascending_by f actions more low zero i h = tt
ascending_by f actions more low (suc n) i h = (h, ascending_by f actions more (f (pair_at actions i)) n (i + 1) (more i))
