-- The first faulty pair, by state and then by action: it decides what a table is refused for.
use Prim.Native.Nat.{ℕ, zero, suc, ◌+◌, ◌*◌, ◌≤◌, ◌<◌}
use mathlib.Core.Path.{◌≡◌, refl, sym, subst}
use mathlib.Core.Logic.{◌⊎◌, inl, inr, ◌≢◌}
use mathlib.Core.List.{List}
use native.Mathlib.Omega.{arith}
use native.Mathlib.Decide.{ℕ_discrete}
use native.Mathlib.Nat.{suc-mul, mul-le-mul_right, div-add-mod', mod-lt}
use Rattle.rows.specs.Rows.{TableRow, Pair, pair_at, pairs_from, pairs, times_met, pair_refusal, table_refusal, faulty_pair}
use Rattle.rows.proofs.PairsComplete.{pair_number, some_action, state_below}
use Rattle.rows.proofs.TableRefused.{by_pair}

-- ---- by the numbers of the pairs

-- of the pairs from the low-th to below the high-th this one meets the refusal, and each before it is met by one row
record FirstAt (rs : List TableRow) (actions low high n : ℕ) (x : Pair) : Type 0 where
  at : ℕ
  from : low ≤ at
  below : at < high
  pair : x ≡ pair_at actions at
  met_once : (i : ℕ) → low ≤ i → i < at → times_met (pair_at actions i) rs ≡ 1
  refused : pair_refusal (times_met x rs) ≡ n

first_decides : (rs : List TableRow) (actions k i : ℕ) {n : ℕ} → table_refusal rs (pairs_from actions k i) ≡ n → n ≢ 0
    → FirstAt rs actions i (i + k) n (faulty_pair rs (pairs_from actions k i))
unfolding table_refusal pairs_from
first_decides rs actions zero i e f = absurd (f (sym e))
first_decides rs actions (suc k) i {n} e f =
    by_pair (λ m x. m ≡ n → FirstAt rs actions i (i + suc k) n x) rs (pair_at actions i) (pairs_from actions k (i + 1))
    (λ t j. later t (first_decides rs actions k (i + 1) j f))
    (λ g j. record { at = i; from = omega arith; below = omega arith; pair = refl; met_once = λ h a b. absurd (omega arith); refused = j })
    e
  where
    later : {x : Pair} → times_met (pair_at actions i) rs ≡ 1 → FirstAt rs actions (i + 1) (i + 1 + k) n x → FirstAt rs actions i (i + suc k) n x
    later t w =
        record {
          at = w.at;
          from = omega (arith, w.from);
          below = omega (arith, w.below);
          pair = w.pair;
          met_once = λ h a b. elim (ℕ_discrete i h) [
            | yes d ↦ subst (λ (j : ℕ). times_met (pair_at actions j) rs ≡ 1) d t
            | no d ↦ w.met_once h (omega arith) b
          ];
          refused = w.refused;
        }

-- ---- by state and action

-- where a pair has a smaller state, or the same one and a smaller action, its number is less
number_less : (actions : ℕ) {q a r b : ℕ} → a < actions → (q < r) ⊎ ((q ≡ r) × (a < b)) → q * actions + a < r * actions + b
number_less actions {q} {a} {r} {b} h (inl l) =
    let m : suc q * actions ≤ r * actions = mul-le-mul_right actions (omega arith) in
    omega (arith, suc-mul q actions)
number_less actions {q} {a} {r} {b} h (inr e) = rw e.0 (omega (arith, e.1))

met_so : (n : ℕ) {m : ℕ} → pair_refusal n ≡ m → m ≢ 0 → ((m ≡ 19) × (n ≡ 0)) ⊎ ((m ≡ 20) × (2 ≤ n))
met_so zero e f = inl (sym e, refl)
met_so (suc zero) e f = absurd (f (sym e))
met_so (suc (suc n)) e f = inr (sym e, omega arith)

module _ (rs : List TableRow) (states actions : ℕ) (refused : table_refusal rs (pairs states actions) ≢ 0) where
  abbrev x : Pair
  x = faulty_pair rs (pairs states actions)

  w : FirstAt rs actions 0 (0 + states * actions) (table_refusal rs (pairs states actions)) x
  w = first_decides rs actions (states * actions) 0 refl refused

  inside : w.at < states * actions
  inside = omega (arith, w.below)

  pub first_fits : (x.state < states) × (x.action < actions)
  first_fits = rw w.pair (state_below states actions w.at inside, mod-lt w.at (some_action states actions w.at inside))

  pub before_first : (y : Pair) → y.action < actions → (y.state < x.state) ⊎ ((y.state ≡ x.state) × (y.action < x.action)) → times_met y rs ≡ 1
  before_first y h l =
      let e : x.state * actions + x.action ≡ w.at = rw w.pair (div-add-mod' w.at actions) in
      let k = number_less actions h l in
      subst (λ (p : Pair). times_met p rs ≡ 1) (pair_number actions y.state y.action h)
      (w.met_once (y.state * actions + y.action) (omega arith) (omega (arith, e, k)))

  pub first-met : ((table_refusal rs (pairs states actions) ≡ 19) × (times_met x rs ≡ 0)) ⊎ ((table_refusal rs (pairs states actions) ≡ 20) × (2 ≤ times_met x rs))
  first-met = met_so (times_met x rs) w.refused refused
