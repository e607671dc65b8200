-- A well-formed program's transitions are those of its table where they are what the rows say, pair by pair.
use Prim.Native.Nat.{ℕ, ◌<◌}
use mathlib.Core.Path.{◌≡◌, refl, ap, ◌∙◌}
use mathlib.Core.Logic.{◌↔◌}
use mathlib.Core.Bool.{true}
use mathlib.Core.List.{List, [], ◌∷◌, Memᴰ}
use Rattle.automaton.specs.Automaton.{Transition, listed}
use Rattle.automaton.proofs.EventsHeard.{listed_in, in_listed}
use Rattle.rows.specs.Rows.{TableRow, Pair, row_fits, meets, times_met, pair_refusal, table_refusal, table_transitions}
use Rattle.rows.proofs.PairsComplete.{pair_fits}
use Rattle.rows.proofs.TableRefused.{clean_pair}
use Rattle.rows.proofs.TableListed.{table_listed}
use Rattle.program.specs.Program.{Program}
use Rattle.program.specs.Frames.{transition_key}
use Rattle.program.specs.WellFormed.{All, WellFormed}
use Rattle.program.specs.Reading.{pairs_of}
use Rattle.program.proofs.SectionsAscend.{same_list}
use Rattle.program.proofs.TableWellFormed.{TableOf, table_ascends}

-- a table is accepted where each pair is met by one row
once_accepted : (rs : List TableRow) (ps : List Pair) → ((p : Pair) → Memᴰ p ps → times_met p rs ≡ 1) → table_refusal rs ps ≡ 0
unfolding table_refusal
once_accepted rs [] h = refl
once_accepted rs (p ∷ ps) h = (clean_pair rs p ps (ap pair_refusal (h p (Memᴰ.head refl)))).0 ∙ once_accepted rs ps (λ x m. h x (Memᴰ.tail m))

module _ (p : Program) (w : WellFormed p) (rs : List TableRow) (fit : All (row_fits p.automaton) rs) where
  abbrev states : ℕ
  states = p.automaton.states

  abbrev actions : ℕ
  actions = p.automaton.actions

  -- the row that meets q and a says s
  abbrev Says : ℕ → ℕ → ℕ → Type 0
  Says q a s = (q < states) × (a < actions) × ((r : TableRow) × Memᴰ r rs × (meets (record { state = q; action = a }) r ≡ true) × (r.next ≡ s))

  pub determined : ((q a : ℕ) → q < states → a < actions → times_met (record { state = q; action = a }) rs ≡ 1)
      → ((q a s : ℕ) → (listed q a s p.automaton.transitions ≡ true) ↔ Says q a s) → TableOf p rs
  determined once says = record { met = good; transitions = same_list transition_key 0 0 ts us w.transitions_ascend (table_ascends p w rs fit) to from }
    where
      ts : List Transition
      ts = p.automaton.transitions

      us : List Transition
      us = table_transitions rs (pairs_of p)

      good : table_refusal rs (pairs_of p) ≡ 0
      good = once_accepted rs (pairs_of p) (λ x m. let f = pair_fits states actions m in once x.state x.action f.0 f.1)

      by_table : (q a s : ℕ) → (listed q a s us ≡ true) ↔ Says q a s
      by_table = table_listed rs states actions good

      to : (t : Transition) → Memᴰ t ts → Memᴰ t us
      to t m = listed_in _ _ _ us ((by_table _ _ _).1 ((says _ _ _).0 (in_listed t ts m)))

      from : (t : Transition) → Memᴰ t us → Memᴰ t ts
      from t m = listed_in _ _ _ ts ((says _ _ _).1 ((by_table _ _ _).0 (in_listed t us m)))
