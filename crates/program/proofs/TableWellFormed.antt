-- The program that a table completes: all but its transitions is as it was, and it is well-formed.
use Prim.Native.Nat.{ℕ, ◌+◌, ◌≤◌, ◌<◌}
use mathlib.Core.Path.{◌≡◌, refl}
use mathlib.Core.Logic.{⊎_elim}
use mathlib.Core.Bool.{Bool, true, ◌&&◌}
use mathlib.Core.List.{List, [], ◌∷◌, map, map-map, Memᴰ}
use native.Mathlib.Omega.{arith}
use lib.ListN.{length}
use borrow.Author.Tests.{ltb-true, lt-ltb, leb-true}
use Rattle.base.proofs.Bools.{both}
use Rattle.tables.specs.Keys.{Ascending}
use Rattle.automaton.specs.Automaton.{Transition}
use Rattle.rows.specs.Rows.{TableRow, no_bit_from, row_fits, Pair, pair_at, transition_for, table_refusal, table_transitions}
use Rattle.rows.proofs.PairsComplete.{transitions_length, pair_fits}
use Rattle.rows.proofs.TableLoop.{few_pairs}
use Rattle.rows.proofs.PairsAscend.{action_below, next_pair, ascending_by}
use Rattle.rows.proofs.RowsMet.{next_below}
use Rattle.program.specs.Program.{Program, within, transition_fits}
use Rattle.program.specs.Frames.{transition_key}
use Rattle.program.specs.WellFormed.{All, WellFormed}
use Rattle.program.specs.Writing.{frames_with}
use Rattle.program.specs.Reading.{pairs_of, with_transitions}
use Rattle.program.proofs.SectionsAscend.{all_in}
use Rattle.program.proofs.ProgramLimits.{Limits, well_formed_limits}

-- each element's image passes the test
all_mapped : {A B : Type 0} (test : B → Bool) (f : A → B) (xs : List A) → ((x : A) → Memᴰ x xs → test (f x) ≡ true) → All test (map f xs)
unfolding All
all_mapped test f [] h = tt
all_mapped test f (x ∷ xs) h = (h x (Memᴰ.head refl), all_mapped test f xs (λ y m. h y (Memᴰ.tail m)))

-- with rows all is written but the transitions, and it is the same: the edges, the initial and the rejecting states are kept
pub all_else_kept : (p : Program) (ts : List Transition) (x : TableRow) (rs : List TableRow) → frames_with (with_transitions p ts) (x ∷ rs) ≡ frames_with p (x ∷ rs)
unfolding frames_with
all_else_kept p ts x rs = refl

-- the table of these rows is accepted, and its transitions are the program's
pub record TableOf (p : Program) (rs : List TableRow) : Type 0 where
  pub met : table_refusal rs (pairs_of p) ≡ 0
  pub transitions : p.automaton.transitions ≡ table_transitions rs (pairs_of p)

-- ---- the transitions of a table

module _ (p : Program) (w : WellFormed p) (rs : List TableRow) (fit : All (row_fits p.automaton) rs) where
  abbrev states : ℕ
  states = p.automaton.states

  abbrev actions : ℕ
  actions = p.automaton.actions

  limit : Limits p
  limit = well_formed_limits p w

  -- there is a state, and there is an action
  some : (0 < states) × (0 < actions)
  some =
      let a = both (within 1 16 p.routines && within 1 16 states) (within 1 32 actions) w.counts-fit in
      let b = both (within 1 16 p.routines) (within 1 16 states) a.0 in
      (leb-true 1 states (both _ _ b.1).0, leb-true 1 actions (both _ _ a.1).0)

  next_small : (x : Pair) → (transition_for rs x).after < states
  next_small x =
      next_below x states rs
      (λ r m. ltb-true r.next states (both (no_bit_from states r.states && no_bit_from actions r.actions) _ (all_in (row_fits p.automaton) rs fit m)).1)
      some.0

  table_fits : All (transition_fits p) (table_transitions rs (pairs_of p))
  table_fits =
      all_mapped (transition_fits p) (transition_for rs) (pairs_of p)
      (λ x m. let f = pair_fits states actions m in rw (lt-ltb x.state states f.0, lt-ltb x.action actions f.1, lt-ltb (transition_for rs x).after states (next_small x)))

  abbrev key : Pair → ℕ
  key x = transition_key (transition_for rs x)

  next_above : (i : ℕ) → key (pair_at actions i) < key (pair_at actions (i + 1))
  next_above i =
      let a = next_small (pair_at actions i) in
      let b = action_below actions i some.1 in
      let c = action_below actions (i + 1) some.1 in
      ⊎_elim (λ e. omega (arith, limit, e)) (λ e. omega (arith, limit, e)) (next_pair actions i some.1)

  pub table_ascends : Ascending 0 (map transition_key (table_transitions rs (pairs_of p)))
  table_ascends = rw (map-map transition_key (transition_for rs) (pairs_of p)) (ascending_by key actions next_above 0 _ 0 (omega arith))

  table_limited : length (table_transitions rs (pairs_of p)) ≤ 512
  table_limited = rw (transitions_length rs states actions) (few_pairs limit.states limit.actions)

  pub table_well_formed : WellFormed (with_transitions p (table_transitions rs (pairs_of p)))
  table_well_formed =
      record {
        counts-fit = w.counts-fit;
        complete = w.complete;
        nodes-fit = w.nodes-fit;
        edges_fit = w.edges_fit;
        edges_ascend = w.edges_ascend;
        edges_limited = w.edges_limited;
        transitions_fit = table_fits;
        transitions_ascend = table_ascends;
        transitions_limited = table_limited;
        initial_fit = w.initial_fit;
        initial_ascend = w.initial_ascend;
        rejecting_fit = w.rejecting_fit;
        rejecting_ascend = w.rejecting_ascend;
        sized = w.sized;
      }
