-- Where the program's own marks say so, and nowhere else, runs are cut off; and the search finds the first of these.
use Prim.Native.Nat.{ℕ, ◌-◌, ◌≤◌, ◌<◌}
use mathlib.Core.Path.{◌≡◌, refl, ◌∙◌}
use mathlib.Core.Logic.{inl, inr}
use mathlib.Core.Bool.{Bool, true, false, cond, ◌&&◌, ◌||◌, not}
use mathlib.Core.List.{List, ◌∷◌}
use native.Mathlib.Omega.{arith}
use lib.Dec.{eqb, ltb}
use lib.ListN.{length}
use borrow.Author.Tests.{eqb-true, eq-eqb, ltb-true, ltb-false, lt-ltb, not-true}
use Rattle.base.specs.Flags.{is_set}
use Rattle.base.proofs.Bools.{both, never, or_left, or_right, not-false, false_not, or_cases}
use Rattle.base.proofs.SetFlags.{set_byte, byte_set}
use Rattle.automaton.specs.declared.Event.TheVariants.{Return}
use Rattle.program.specs.declared.sizes.Sizes.{Sizes}
use Rattle.program.specs.Sizes.{max_edges}
use Rattle.program.specs.Chosen.{numbers}
use Rattle.program.specs.Program.{Program}
use Rattle.reach.specs.Configurations.{Usable, At, routine_of, node_of, root_of, state_of}
use Rattle.reach.specs.Runs.{Occurs}
use Rattle.reach.specs.Ranged.{Ranged}
use Rattle.reach.specs.Marks.{Marked, Shows}
use Rattle.reach.proofs.RunsReach.{occurs_iff, CalledWith, was_called, run_called}
use Rattle.reach.proofs.MarksShown.{shown_at, one_of, occurs_in_range}
use Rattle.base.specs.Searches.{seek}
use Rattle.base.proofs.NumbersSought.{seek_at_least, seek_at_most, seek_meets, seek_passes}
use Rattle.base.proofs.SearchesAsk.{both_met}
use Rattle.reach.specs.Blocked.{Barred, Unreturned, no_edge, Blocked, by_edge, by_return}
use Rattle.blocked.specs.Blocks.{allows, bars, first_barred, any_barred, is_called, no_return, is_blocked, blocked_by}
use Rattle.blocked.proofs.EventsAllowed.{step_at, allows_iff, barred, bars_there, CallsOne, called_found, called_there}

module _ {Z : Sizes} (U : Usable Z) {p : Program} (w : Ranged Z p) where
  -- ---- the first edge that is barred

  module _ (i : ℕ) where
    abbrev test : ℕ → Bool
    test = bars p (routine_of Z i) (node_of Z i) (state_of Z i)

    abbrev BarredAt : ℕ → Type 0
    BarredAt k = Barred p (routine_of Z i) (node_of Z i) (state_of Z i) k

    first_is : any_barred Z p i ≡ true → BarredAt (first_barred Z p i)
    unfolding first_barred
    first_is h =
        let l = ltb-true (seek test (length p.edges) 0) (length p.edges) h in
        barred w (routine_of Z i) (node_of Z i) (state_of Z i) (seek test (length p.edges) 0) l (seek_meets test (length p.edges) 0 (omega arith))

    first_least : (j : ℕ) → BarredAt j → first_barred Z p i ≤ j
    unfolding first_barred
    first_least j b =
        let n = length p.edges in
        by (ltb j (seek test n 0)) refl
      where
        by : (t : Bool) → ltb j (seek test (length p.edges) 0) ≡ t → seek test (length p.edges) 0 ≤ j
        by true e = never (bars_there w b) (seek_passes test (length p.edges) 0 j (omega arith) (ltb-true j (seek test (length p.edges) 0) e))
        by false e = ltb-false j (seek test (length p.edges) 0) e

    barred_any : (j : ℕ) → BarredAt j → any_barred Z p i ≡ true
    barred_any j b = lt-ltb (first_barred Z p i) (length p.edges) (omega (arith, first_least j b, b.inside))

    -- no edge leaves an exit
    exit_free : node_of Z i ≡ 1 → any_barred Z p i ≡ false
    exit_free e =
        false_not (any_barred Z p i) (λ h. let b = first_is h in w.no_exit (step_at p (first_barred Z p i) b.inside) (b.source ∙ e))

  -- ---- the program's own marks

  module _ {l : List ℕ} (a : Shows Z (Occurs p) l) where
    occurs_set : (i : ℕ) → i < numbers Z → At Z (Occurs p) i → is_set l i ≡ true
    occurs_set i h o = let e = (shown_at Z U a i h).1 o in byte_set l i (λ z. omega arith)

    set_occurs : (i : ℕ) → i < numbers Z → is_set l i ≡ true → At Z (Occurs p) i
    set_occurs i h e = (shown_at Z U a i h).0 (one_of (a.bit i) (set_byte l i e))

    marked_occurs : {f n r q : ℕ} → Marked Z l f n r q → Occurs p f n r q
    marked_occurs {f} {n} {r} {q} m = (a.shown m.0).0 (one_of (a.bit _) m.1)

    -- ---- an exit that was called

    calls_reach : (g s : ℕ) → CallsOne w (Marked Z l) g s → CalledWith p g s
    calls_reach g s c =
        let x = c.calls in
        record {
          from = c.from;
          calls = record {
            node = x.node;
            root = x.root;
            state = x.state;
            target = x.target;
            holds = occurs_iff.0 (marked_occurs x.holds);
            calls = x.calls;
            moves = x.moves;
          };
        }

    reach_calls : (g s : ℕ) → CalledWith p g s → CallsOne w (Marked Z l) g s
    reach_calls g s c =
        let x = c.calls in
        let o = occurs_iff.1 x.holds in
        let h = occurs_in_range Z U p w o in
        let e = (a.shown h).1 o in
        record {
          from = c.from;
          calls = record {
            node = x.node;
            root = x.root;
            state = x.state;
            target = x.target;
            holds = (h, λ z. omega arith);
            calls = x.calls;
            moves = x.moves;
          };
        }

    -- at an exit
    module _ (i : ℕ) where
      abbrev returns : Bool
      returns = allows p.automaton (state_of Z i) (Return (routine_of Z i))

      abbrev called : Bool
      called = is_called Z p l (routine_of Z i) (root_of Z i)

      unreturned_test : node_of Z i ≡ 1 → Unreturned p (routine_of Z i) (root_of Z i) (state_of Z i) → no_return Z p l i ≡ true
      unfolding no_return
      unreturned_test e u =
          let never_back = false_not returns (λ h. u.not_allowed ((allows_iff w (state_of Z i) (Return (routine_of Z i))).0 h)) in
          both_met (both_met (eq-eqb (node_of Z i) 1 e) (not-false never_back))
          (called_there w l (routine_of Z i) (root_of Z i) (reach_calls _ _ (was_called u.run)))

      test_unreturned : i < numbers Z → is_set l i ≡ true → no_return Z p l i ≡ true
          → (node_of Z i ≡ 1) × Unreturned p (routine_of Z i) (root_of Z i) (state_of Z i)
      unfolding no_return
      test_unreturned h on t =
          let x = both (eqb (node_of Z i) 1 && not returns) called t in
          let y = both (eqb (node_of Z i) 1) (not returns) x.0 in
          let e = eqb-true (node_of Z i) 1 y.0 in
          let o : Occurs p (routine_of Z i) 1 (root_of Z i) (state_of Z i) = rw e at (set_occurs i h on) in
          let c = run_called (occurs_iff.0 o) (calls_reach _ _ (called_found w l (routine_of Z i) (root_of Z i) x.1)) in (
            e,
            record {
              caller = c.caller;
              below = c.below;
              run = c.run;
              not_allowed = λ z. never ((allows_iff w (state_of Z i) (Return (routine_of Z i))).1 z) (not-true returns y.1);
            },
          )

    -- ---- exactly these

    pub blocked_told : {i e : ℕ} → Blocked Z p i e → (is_blocked Z p l i ≡ true) × (e ≡ blocked_by Z p i) × (i < numbers Z)
    unfolding is_blocked blocked_by
    blocked_told {i} (by_edge {k = k} h o b least) =
        let any = barred_any i k b in
        let same : k ≡ first_barred Z p i = omega (arith, least (first_barred Z p i) (first_is i any), first_least i k b) in
        (both_met (occurs_set i h o) (or_left (any_barred Z p i) (no_return Z p l i) any), rw any same, h)
    blocked_told {i} (by_return h e u) =
        let o : Occurs p (routine_of Z i) (node_of Z i) (root_of Z i) (state_of Z i) = rw e (record { below = u.caller ∷ u.below; run = u.run }) in
        let none = exit_free i e in
        (both_met (occurs_set i h o) (or_right (any_barred Z p i) (no_return Z p l i) (unreturned_test i e u)), rw none refl, h)

    pub told_blocked : (i : ℕ) → i < numbers Z → is_blocked Z p l i ≡ true → Blocked Z p i (blocked_by Z p i)
    unfolding is_blocked blocked_by
    told_blocked i h t =
        let x = both (is_set l i) (any_barred Z p i || no_return Z p l i) t in
        elim (or_cases (any_barred Z p i) (no_return Z p l i) x.1) [
          | inl y ↦ rw y (by_edge h (set_occurs i h x.0) (first_is i y) (first_least i))
          | inr y ↦ rw y.0 (let u = test_unreturned i h x.0 y.1 in by_return h u.0 u.1)
        ]

    -- ---- the first one from a number on

    module _ (low : ℕ) where
      abbrev found : ℕ
      found = seek (is_blocked Z p l) (numbers Z - low) low

      pub block-found : found < numbers Z → Blocked Z p found (blocked_by Z p found) × (low ≤ found)
          × ((v e : ℕ) → Blocked Z p v e → low ≤ v → found ≤ v)
      block-found h = (
        told_blocked found h (seek_meets (is_blocked Z p l) (numbers Z - low) low (omega (arith, seek_at_least (is_blocked Z p l) (numbers Z - low) low))),
        seek_at_least (is_blocked Z p l) (numbers Z - low) low,
        λ v e b k. earlier v (blocked_told b).0 k,
      )
        where
          earlier : (v : ℕ) → is_blocked Z p l v ≡ true → low ≤ v → found ≤ v
          earlier v t k = by (ltb v found) refl
            where
              by : (b : Bool) → ltb v found ≡ b → found ≤ v
              by true e = never t (seek_passes (is_blocked Z p l) (numbers Z - low) low v k (ltb-true v found e))
              by false e = ltb-false v found e

      pub block_nowhere : numbers Z ≤ found → (v e : ℕ) → Blocked Z p v e → v < low
      block_nowhere h v e b =
          let x = blocked_told b in
          by (ltb v low) refl x.0 x.2
        where
          by : (t : Bool) → ltb v low ≡ t → is_blocked Z p l v ≡ true → v < numbers Z → v < low
          by true e t k = ltb-true v low e
          by false e t k = never t (seek_passes (is_blocked Z p l) (numbers Z - low) low v (ltb-false v low e) (omega (arith, h)))

-- ---- what is told in the place of an edge is small

pub edge_small : (Z : Sizes) (p : Program) → length p.edges ≤ max_edges → (i : ℕ) → blocked_by Z p i ≤ no_edge
unfolding blocked_by first_barred
edge_small Z p few i = go (any_barred Z p i)
  where
    first : ℕ
    first = seek (bars p (routine_of Z i) (node_of Z i) (state_of Z i)) (length p.edges) 0

    go : (t : Bool) → cond t first no_edge ≤ no_edge
    go true = omega (arith, few, seek_at_most (bars p (routine_of Z i) (node_of Z i) (state_of Z i)) (length p.edges) 0)
    go false = omega arith
