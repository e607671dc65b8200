-- The transitions of a table that is accepted: for each state and each action one, to the state that the row says.
use Prim.Native.Nat.{ℕ, ◌<◌}
use mathlib.Core.Path.{◌≡◌, refl, sym, ap, ◌∙◌}
use mathlib.Core.Logic.{◌↔◌}
use mathlib.Core.Bool.{true, ◌&&◌}
use mathlib.Core.List.{List, [], ◌∷◌, Memᴰ}
use native.Mathlib.Omega.{arith}
use lib.Dec.{eqb}
use borrow.Author.Tests.{eqb-true, eq-eqb}
use Rattle.base.proofs.Bools.{never, both, either, or_left, or_right}
use Rattle.automaton.specs.Automaton.{Transition, goes, listed}
use Rattle.rows.specs.Rows.{TableRow, Pair, pairs, meets, times_met, table_refusal, next_state, transition_for, table_transitions}
use Rattle.rows.proofs.PairsComplete.{pair_fits, pair_in}
use Rattle.rows.proofs.RowsMet.{first_row, only_row}
use Rattle.rows.proofs.TableRefused.{clean}

-- ---- the transitions of some pairs

listed_pair : (rs : List TableRow) (ps : List Pair) (q a s : ℕ) → listed q a s (table_transitions rs ps) ≡ true
    → Memᴰ {A = Pair} (record { state = q; action = a }) ps × (next_state (record { state = q; action = a }) rs ≡ s)
unfolding listed
listed_pair rs [] q a s e = never e refl
listed_pair rs (p ∷ ps) q a s e =
    either (goes q a s (transition_for rs p)) (listed q a s (table_transitions rs ps)) e first
    (λ h. let z = listed_pair rs ps q a s h in (Memᴰ.tail z.0, z.1))
  where
    first : goes q a s (transition_for rs p) ≡ true
        → Memᴰ {A = Pair} (record { state = q; action = a }) (p ∷ ps) × (next_state (record { state = q; action = a }) rs ≡ s)
    first h =
        let x = both (eqb p.state q && eqb p.action a) (eqb (next_state p rs) s) h in
        let y = both (eqb p.state q) (eqb p.action a) x.0 in
        let e = eqb-true p.state q y.0 in
        let f = eqb-true p.action a y.1 in
        let d : ◌≡◌ {A = Pair} (record { state = q; action = a }) p = λ i. record { state = sym e i; action = sym f i } in
        (Memᴰ.head d, ap (λ (w : Pair). next_state w rs) d ∙ eqb-true (next_state p rs) s x.1)

goes_itself : (t : Transition) → goes t.before t.label t.after t ≡ true
goes_itself t = rw (eq-eqb t.before t.before refl, eq-eqb t.label t.label refl, eq-eqb t.after t.after refl)

pair_listed : (rs : List TableRow) (ps : List Pair) {p : Pair} → Memᴰ p ps
    → listed p.state p.action (next_state p rs) (table_transitions rs ps) ≡ true
unfolding listed
pair_listed rs [] m = elim m [ ]
pair_listed rs (x ∷ ps) (Memᴰ.head d) = rw d (or_left (goes x.state x.action (next_state x rs) (transition_for rs x)) _ (goes_itself (transition_for rs x)))
pair_listed rs (x ∷ ps) {p} (Memᴰ.tail m) = or_right (goes p.state p.action (next_state p rs) (transition_for rs x)) _ (pair_listed rs ps m)

-- ---- the transitions of a table that is accepted

module _ (rs : List TableRow) (states actions : ℕ) (accepted : table_refusal rs (pairs states actions) ≡ 0) where
  pub met_once : (q a : ℕ) → q < states → a < actions → times_met (record { state = q; action = a }) rs ≡ 1
  met_once q a h k = clean rs (pairs states actions) accepted (pair_in states actions q a h k)

  pub table_listed : (q a s : ℕ)
      → (listed q a s (table_transitions rs (pairs states actions)) ≡ true)
      ↔ ((q < states) × (a < actions) × ((r : TableRow) × Memᴰ r rs × (meets (record { state = q; action = a }) r ≡ true) × (r.next ≡ s)))
  table_listed q a s = (to, from)
    where
      to : listed q a s (table_transitions rs (pairs states actions)) ≡ true
          → (q < states) × (a < actions) × ((r : TableRow) × Memᴰ r rs × (meets (record { state = q; action = a }) r ≡ true) × (r.next ≡ s))
      to e =
          let z = listed_pair rs (pairs states actions) q a s e in
          let f = pair_fits states actions z.0 in
          let t = met_once q a f.0 f.1 in
          let r = first_row (record { state = q; action = a }) rs (omega arith) in
          (f.0, f.1, (r.0, r.1, r.2, r.3 ∙ z.1))

      from : (q < states) × (a < actions) × ((r : TableRow) × Memᴰ r rs × (meets (record { state = q; action = a }) r ≡ true) × (r.next ≡ s))
          → listed q a s (table_transitions rs (pairs states actions)) ≡ true
      from h =
          let r = h.2 in
          let n = only_row (record { state = q; action = a }) rs (met_once q a h.0 h.1) r.1 r.2 in
          rw (← r.3, n) (pair_listed rs (pairs states actions) (pair_in states actions q a h.0 h.1))

  pub one_transition : (q a : ℕ) → q < states → a < actions
      → (s : ℕ) × (listed q a s (table_transitions rs (pairs states actions)) ≡ true)
      × ((s' : ℕ) → listed q a s' (table_transitions rs (pairs states actions)) ≡ true → s' ≡ s)
  one_transition q a h k = (
    next_state (record { state = q; action = a }) rs,
    pair_listed rs (pairs states actions) (pair_in states actions q a h k),
    λ s' e. sym (listed_pair rs (pairs states actions) q a s' e).1,
  )
