-- What the tests on a program mean: an event is allowed, an edge is barred, a routine is called with a root.
use Prim.Native.Nat.{ℕ, ◌<◌}
use mathlib.Core.Path.{◌≡◌, sym, ap, ◌∙◌}
use mathlib.Core.Logic.{◌↔◌}
use mathlib.Core.Bool.{Bool, true, ◌&&◌, not}
use mathlib.Core.List.{List}
use native.Mathlib.Omega.{arith}
use lib.Dec.{eqb}
use lib.ListN.{length}
use borrow.Author.Tests.{eqb-true, eq-eqb, le-leb, leb-true, not-true}
use Rattle.base.specs.Flags.{is_set}
use Rattle.base.proofs.Bools.{both, never, not-false, false_not}
use Rattle.base.proofs.SetFlags.{set_byte, byte_set}
use Rattle.automaton.specs.Sizes.{first_call}
use Rattle.automaton.specs.Automaton.{call_of, moves}
use Rattle.automaton.specs.declared.Event.{Event}
use Rattle.automaton.specs.declared.Event.TheVariants.{Call}
use Rattle.program.specs.declared.sizes.Sizes.{Sizes}
use Rattle.program.specs.Program.{Edge, Program}
use Rattle.reach.specs.Configurations.{Set, number}
use Rattle.reach.specs.Runs.{event_of, Step, step_of, HasStep}
use Rattle.reach.specs.Ranged.{Ranged}
use Rattle.reach.specs.Reachable.{Calls}
use Rattle.reach.specs.Marks.{Marked}
use Rattle.reach.proofs.ProgramInSizes.{map_in}
use Rattle.reach.proofs.Labels.{call_label, label_calls}
use Rattle.callgraph.proofs.CallsByKey.{at_in, place_of}
use Rattle.base.specs.Searches.{any_from}
use Rattle.base.proofs.SearchesAsk.{found_from, any-from, both_met}
use Rattle.support.proofs.KeysAsked.{in_map}
use Rattle.reach.specs.Blocked.{Allows, edge_at, Barred}
use Rattle.blocked.specs.Blocks.{allows, bars, calls_from, is_called}

abbrev none_at : Edge
none_at = record { routine = 0; source = 0; label = 0; target = 0 }

-- the label of a call of g
pub call-of : (a g : ℕ) → a ≡ call_of g → event_of a ≡ Call g
call-of a g e = call_label a (le-leb first_call a (omega arith)) ∙ ap Call (omega arith)

-- ---- edges by their places

pub step_at : (p : Program) (k : ℕ) → k < length p.edges
    → HasStep p (edge_at p k).routine (edge_at p k).source (event_of (edge_at p k).label) (edge_at p k).target
step_at p k h = in_map step_of p.edges (at_in none_at p.edges k h)

-- the place of a step
pub record Placed (p : Program) (f n : ℕ) (e : Event) : Type 0 where
  pub place : ℕ
  pub inside : place < length p.edges
  pub routine : (edge_at p place).routine ≡ f
  pub source : (edge_at p place).source ≡ n
  pub event : event_of (edge_at p place).label ≡ e

pub placed : (p : Program) {f n m : ℕ} {e : Event} → HasStep p f n e m → Placed p f n e
placed p h =
    let x = map_in step_of p.edges h in
    let y = place_of none_at p.edges x.member in
    let e = x.is ∙ ap step_of y.is in
    record {
      place = y.place;
      inside = y.within;
      routine = sym (ap (λ (s : Step). s.routine) e);
      source = sym (ap (λ (s : Step). s.source) e);
      event = sym (ap (λ (s : Step). s.label) e);
    }

-- ---- what is allowed

module _ {Z : Sizes} {p : Program} (w : Ranged Z p) where
  pub allows_iff : (q : ℕ) (e : Event) → (allows p.automaton q e ≡ true) ↔ Allows p q e
  allows_iff q e = (
    λ h. let x = found_from (moves p.automaton q e) p.automaton.states 0 h in (x.at, x.test),
    λ a. any-from (moves p.automaton q e) p.automaton.states 0 a.0 (omega arith) (omega (arith, w.after q e a.0 a.1)) a.1,
  )

  pub barred : (f n q k : ℕ) → k < length p.edges → bars p f n q k ≡ true → Barred p f n q k
  barred f n q k h e =
      let a = allows p.automaton q (event_of (edge_at p k).label) in
      let x = both (eqb (edge_at p k).routine f && eqb (edge_at p k).source n) (not a) e in
      let y = both (eqb (edge_at p k).routine f) (eqb (edge_at p k).source n) x.0 in
      record {
        inside = h;
        routine = eqb-true _ f y.0;
        source = eqb-true _ n y.1;
        not_allowed = λ z. never ((allows_iff q (event_of (edge_at p k).label)).1 z) (not-true a x.1);
      }

  pub bars_there : {f n q k : ℕ} → Barred p f n q k → bars p f n q k ≡ true
  bars_there {f} {n} {q} {k} b =
      let a = false_not (allows p.automaton q (event_of (edge_at p k).label)) (λ h. b.not_allowed ((allows_iff q _).0 h)) in
      both_met (both_met (eq-eqb _ f b.routine) (eq-eqb _ n b.source)) (not-false a)

  -- ---- what is called

  -- some configuration of S calls g, and s is the root that this gives
  pub record CallsOne (S : Set) (g s : ℕ) : Type 0 where
    pub from : ℕ
    pub calls : Calls p S from g s

  module _ (marks : List ℕ) (g s : ℕ) where
    abbrev in_state : Edge → ℕ → ℕ → Bool
    in_state e r q = is_set marks (number Z e.routine e.source r q) && moves p.automaton q (Call g) s

    abbrev with_root : Edge → ℕ → Bool
    with_root e r = any_from (in_state e r) Z.states 0

    pub called_found : is_called Z p marks g s ≡ true → CallsOne (Marked Z marks) g s
    unfolding is_called
    called_found h =
        let x = found_from (λ k. calls_from Z p marks g s (edge_at p k)) (length p.edges) 0 h in
        let e = edge_at p x.at in
        let b = both (eqb e.label (call_of g)) (any_from (with_root e) Z.states 0) x.test in
        let r = found_from (with_root e) Z.states 0 b.1 in
        let q = found_from (in_state e r.at) Z.states 0 r.test in
        let c = both (is_set marks (number Z e.routine e.source r.at q.at)) (moves p.automaton q.at (Call g) s) q.test in
        let l = call-of e.label g (eqb-true e.label (call_of g) b.0) in
        let step : HasStep p e.routine e.source (Call g) e.target = rw l at (step_at p x.at (omega (arith, x.below))) in
        record {
          from = e.routine;
          calls = record {
            node = e.source;
            root = r.at;
            state = q.at;
            target = e.target;
            holds = (
              record {
                routine = w.routine step;
                node = w.source step;
                root = omega (arith, r.below);
                state = omega (arith, q.below);
              },
              set_byte marks _ c.0,
            );
            calls = step;
            moves = c.1;
          };
        }

    pub called_there : CallsOne (Marked Z marks) g s → is_called Z p marks g s ≡ true
    unfolding is_called
    called_there c =
        let x = c.calls in
        let y = placed p x.calls in
        let e = edge_at p y.place in
        let on : is_set marks (number Z e.routine e.source x.root x.state) ≡ true = rw (y.routine, y.source) (byte_set marks _ x.holds.1) in
        let in_range = x.holds.0 in
        let by_state = any-from (in_state e x.root) Z.states 0 x.state (omega arith) (omega (arith, in_range.state)) (both_met on x.moves) in
        let by_root = any-from (with_root e) Z.states 0 x.root (omega arith) (omega (arith, in_range.root)) by_state in
        let l = label_calls e.label g y.event in
        let label : e.label ≡ call_of g = omega (arith, leb-true first_call e.label l.0, l.1) in
        any-from (λ k. calls_from Z p marks g s (edge_at p k)) (length p.edges) 0 y.place (omega arith) (omega (arith, y.inside))
        (both_met (eq-eqb e.label (call_of g) label) by_root)
