-- The pairs are each state with each action, and nothing else.
use Prim.Native.Nat.{ℕ, zero, suc, ◌+◌, ◌*◌, ◌/◌, ◌%◌, ◌≤◌, ◌<◌}
use mathlib.Core.Path.{◌≡◌, refl, sym, ap, ◌∙◌}
use mathlib.Core.List.Memᴰ
use mathlib.Core.List.{List, Memᴰ}
use native.Mathlib.Omega.{arith}
use native.Mathlib.Decide.{ℕ_discrete}
use native.Mathlib.Nat.{add-zero, mul-zero, suc-mul, mul-le-mul_right, mul-add-div_right, mul-add-mod_self_right, div-eq_of_lt, div-lt_iff_lt-mul, mod-lt, mod-eq_of_lt}
use lib.ListN.{length, length-map}
use Rattle.rows.specs.Rows.{TableRow, Pair, pair_at, pairs_from, pairs, transition_for, table_transitions}

-- ---- how many there are

from_length : (actions n i : ℕ) → length (pairs_from actions n i) ≡ n
unfolding pairs_from
from_length actions zero i = refl
from_length actions (suc n) i = ap suc (from_length actions n (i + 1))

pub pairs_length : (states actions : ℕ) → length (pairs states actions) ≡ states * actions
pairs_length states actions = from_length actions (states * actions) 0

pub transitions_length : (rs : List TableRow) (states actions : ℕ) → length (table_transitions rs (pairs states actions)) ≡ states * actions
transitions_length rs states actions = length-map (pairs states actions) (transition_for rs) ∙ pairs_length states actions

-- ---- the number of a pair

pub pair_number : (actions q a : ℕ) → a < actions → pair_at actions (q * actions + a) ≡ record { state = q; action = a }
pair_number actions q a h =
    let d : (q * actions + a) / actions ≡ q = mul-add-div_right (omega arith) q a ∙ rw (div-eq_of_lt h) (add-zero q) in
    let m : (q * actions + a) % actions ≡ a = mul-add-mod_self_right q actions a ∙ mod-eq_of_lt h in
    cc

-- where there is a pair, there is an action, and the pair's state is one of the states
pub some_action : (states actions i : ℕ) → i < states * actions → 0 < actions
some_action states zero i h = absurd (omega (arith, rw (mul-zero states) at h))
some_action states (suc actions) i h = omega arith

pub state_below : (states actions i : ℕ) → i < states * actions → i / actions < states
state_below states actions i h = (div-lt_iff_lt-mul (some_action states actions i h)).1 h

-- ---- which pairs there are

numbered : {p : Pair} (actions n i : ℕ) → Memᴰ p (pairs_from actions n i) → (j : ℕ) × (j < i + n) × (p ≡ pair_at actions j)
unfolding pairs_from
numbered actions zero i m = elim m [ ]
numbered actions (suc n) i (Memᴰ.head e) = (i, omega arith, e)
numbered actions (suc n) i (Memᴰ.tail m) = let z = numbered actions n (i + 1) m in (z.0, omega (arith, z.1), z.2)

number_in : (actions n i j : ℕ) → i ≤ j → j < i + n → Memᴰ (pair_at actions j) (pairs_from actions n i)
unfolding pairs_from
number_in actions zero i j l h = absurd (omega arith)
number_in actions (suc n) i j l h =
    elim (ℕ_discrete i j) [
      | yes e ↦ Memᴰ.head (ap (pair_at actions) (sym e))
      | no e ↦ Memᴰ.tail (number_in actions n (i + 1) j (omega arith) (omega arith))
    ]

pub pair_fits : (states actions : ℕ) {p : Pair} → Memᴰ p (pairs states actions) → (p.state < states) × (p.action < actions)
pair_fits states actions m =
    let z = numbered actions (states * actions) 0 m in
    let h : z.0 < states * actions = omega (arith, z.1) in
    rw z.2 (state_below states actions z.0 h, mod-lt z.0 (some_action states actions z.0 h))

pub pair_in : (states actions q a : ℕ) → q < states → a < actions → Memᴰ {A = Pair} (record { state = q; action = a }) (pairs states actions)
pair_in states actions q a h k =
    let m : suc q * actions ≤ states * actions = mul-le-mul_right actions (omega arith) in
    Memᴰ.cast (sym (pair_number actions q a k))
    (number_in actions (states * actions) 0 (q * actions + a) (omega arith) (omega (arith, suc-mul q actions)))
