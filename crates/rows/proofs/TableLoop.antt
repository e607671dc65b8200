-- The loop that makes the transitions of a table: it takes the pairs in turn, and the first faulty one ends it.
use Prim.Native.Nat.{ℕ, suc, ◌+◌, ◌*◌, ◌-◌, ◌≤◌, ◌<◌}
use mathlib.Core.Path.{◌≡◌, sym, ◌∙◌}
use mathlib.Core.Logic.{◌≢◌}
use mathlib.Core.List.{List, [], ◌∷◌, ◌++◌, map, map-append, append-nil}
use native.Mathlib.Omega.{arith}
use native.Mathlib.Nat.{sub-zero, mul-le-mul}
use lib.ListN.{length, take, length-append}
use lib.Seq.{append_snoc, length-take-le}
use Rattle.tables.specs.Keys.{Holds}
use Rattle.automaton.specs.Sizes.{max_states, max_actions, max_transitions}
use Rattle.automaton.specs.Decoded.{transition_of}
use Rattle.rows.specs.Rows.{TableRow, no_pair, pair_at, pairs_from, pairs, times_met, pair_refusal, table_refusal, faulty_pair, transition_for, table_transitions}
use Rattle.rows.proofs.TableRefused.{faulty-pair, clean_pair}

-- a transition for each pair finds room
pub few_pairs : {states actions : ℕ} → states ≤ max_states → actions ≤ max_actions → states * actions ≤ max_transitions
few_pairs h k = mul-le-mul h k

-- with one key more at the end there is one more
pub one_more : (keys new : List ℕ) (i key : ℕ) {r : ℕ} → i < length keys → Holds new r (take i keys ++ (key ∷ [])) → r ≡ i + 1
one_more keys new i key h w = omega (arith, w.as_many, length-append (take i keys) (key ∷ []), length-take-le i keys (omega arith))

-- the pairs before the i-th have their transitions, and those from it on decide
pub record Tabling (rs : List TableRow) (states actions : ℕ) (keys : List ℕ) (i : ℕ) : Type 0 where
  pub size : length keys ≡ max_transitions
  pub within : i ≤ states * actions
  pub made : map transition_of (take i keys) ++ table_transitions rs (pairs_from actions (states * actions - i) i) ≡ table_transitions rs (pairs states actions)
  pub rest : table_refusal rs (pairs_from actions (states * actions - i) i) ≡ table_refusal rs (pairs states actions)
  pub first : faulty_pair rs (pairs_from actions (states * actions - i) i) ≡ faulty_pair rs (pairs states actions)

pub tabling_none : (rs : List TableRow) (states actions : ℕ) (keys : List ℕ) → length keys ≡ max_transitions → Tabling rs states actions keys 0
tabling_none rs states actions keys l =
    let z = sub-zero (states * actions) in
    record { size = l; within = omega arith; made = rw z; rest = rw z; first = rw z }

from_next : (actions n i : ℕ) → i < n → pairs_from actions (n - i) i ≡ pair_at actions i ∷ pairs_from actions (n - (i + 1)) (i + 1)
unfolding pairs_from
from_next actions n i h = let z : n - i ≡ suc (n - (i + 1)) = omega arith in rw z

from_none : (actions n i : ℕ) → n ≤ i → pairs_from actions (n - i) i ≡ []
unfolding pairs_from
from_none actions n i h = let z : n - i ≡ 0 = omega arith in rw z

module _ {rs : List TableRow} {states actions : ℕ} {keys : List ℕ} {i : ℕ} (t : Tabling rs states actions keys i) where
  pub tabling_faulty : i < states * actions → pair_refusal (times_met (pair_at actions i) rs) ≢ 0
      → (pair_refusal (times_met (pair_at actions i) rs) ≡ table_refusal rs (pairs states actions)) × (pair_at actions i ≡ faulty_pair rs (pairs states actions))
  tabling_faulty h f =
      let o = from_next actions (states * actions) i h in
      let w = faulty-pair rs (pair_at actions i) _ f in
      (sym w.0 ∙ rw o at t.rest, sym w.1 ∙ rw o at t.first)

  pub tabling_more : {new : List ℕ} (key : ℕ) {r : ℕ} → i < states * actions → i < length keys → pair_refusal (times_met (pair_at actions i) rs) ≡ 0
      → transition_of key ≡ transition_for rs (pair_at actions i) → length new ≡ length keys → Holds new r (take i keys ++ (key ∷ []))
      → Tabling rs states actions new r
  tabling_more {new} key {r} h k e f l w =
      let n = one_more keys new i key k w in
      let o = from_next actions (states * actions) i h in
      record {
        size = l ∙ t.size;
        within = omega arith;
        made =
            rw (w.are, n, map-append transition_of (take i keys) (key ∷ []), f, append_snoc)
            (rw o at t.made);
        rest = rw n (sym (clean_pair rs (pair_at actions i) _ e).0 ∙ rw o at t.rest);
        first = rw n (sym (clean_pair rs (pair_at actions i) _ e).1 ∙ rw o at t.first);
      }

  module _ (h : states * actions ≤ i) where
    pub tabling_made : map transition_of (take i keys) ≡ table_transitions rs (pairs states actions)
    tabling_made = sym (append-nil _) ∙ rw (from_none actions (states * actions) i h) at t.made

    pub tabling_clean : (0 ≡ table_refusal rs (pairs states actions)) × (no_pair ≡ faulty_pair rs (pairs states actions))
    unfolding table_refusal faulty_pair
    tabling_clean = let o = from_none actions (states * actions) i h in (rw o at t.rest, rw o at t.first)
