-- A group pass depends only on its own steps, old roots, the rule and the pairs of the routines it calls (01).
use Prim.Native.Nat.{ℕ}
use mathlib.Core.Path.{◌≡◌, refl, sym, subst}
use mathlib.Core.Logic.{◌↔◌}
use mathlib.Core.Bool.{true}
use mathlib.Core.List.{List, map, Memᴰ}
use native.Mathlib.Omega.{arith}
use native.Mathlib.Decide.{ℕ_discrete}
use lib.ListN.{get_or}
use Rattle.automaton.specs.Automaton.{Automaton, moves}
use Rattle.automaton.specs.declared.Event.{Event}
use Rattle.program.specs.declared.sizes.Sizes.{Sizes}
use Rattle.program.specs.Program.{Edge, Program}
use Rattle.reach.specs.Runs.{step_of, HasStep}
use Rattle.reach.specs.Reachable.{seeded, by_action, by_call, by_return}
use Rattle.reach.specs.Marks.{Marked}
use Rattle.reach.proofs.LeastSetLaws.{Within}
use Rattle.callgraph.specs.Components.{CallEdge, member_of, Member}
use Rattle.passes.specs.Passes.{edges_of, only_of, entry, summary, ExitOf, PassOf, Passed}
use Rattle.demands.specs.Inputs.{SameInputs}
use Rattle.passes.proofs.EdgesOfRoutines.{only_step, only_routine, step_only}
use Rattle.callgraph.proofs.RoutineSets.{member_true, true_member}

-- ---- the same the other way round

-- each step of the component in p, and each move of its automaton, is one in p'
alike : (members : List ℕ) (p p' : Program) → edges_of (member_of members) p.edges ≡ edges_of (member_of members) p'.edges → p.automaton ≡ p'.automaton
    → Within (only_of (member_of members) p) (only_of (member_of members) p')
alike members p p' steps rule =
    record {
      steps = λ {f} {n} {m} {e} h.
          subst (λ (es : List Edge). Memᴰ (record { routine = f; source = n; label = e; target = m }) (map step_of es)) steps h;
      moves = λ q e s v. subst (λ (a : Automaton). moves a q e s ≡ true) rule v;
    }

flipped : {Z Z' : Sizes} {members : List ℕ} {p p' : Program} {old old' marks marks' : List ℕ} → SameInputs Z Z' members p p' old old' marks marks'
    → SameInputs Z' Z members p' p old' old marks' marks
flipped {Z} {Z'} {members} {p} {p'} i =
    record {
      edges = sym i.edges;
      automaton = sym i.automaton;
      roots = λ f r m. let same = i.roots f r m in (same.1, same.0);
      summaries = λ f g r q m c k.
          let there = step_only (member_of members) p' (member_true members f m) c.edge in
          let here = only_step (member_of members) p ((alike members p' p (sym i.edges) (sym i.automaton)).steps there) in
          let same = i.summaries f g r q m (record { source = c.source; target = c.target; edge = here }) k in
          (same.1, same.0);
    }

-- ---- what one pass derives of the component, the other derives

module _ {Z Z' : Sizes} {members : List ℕ} {p p' : Program} {old old' marks marks' : List ℕ} (i : SameInputs Z Z' members p p' old old' marks marks') where
  same : Within (only_of (member_of members) p) (only_of (member_of members) p')
  same = alike members p p' i.edges i.automaton

  caller : {f n m : ℕ} {e : Event} → HasStep (only_of (member_of members) p) f n e m → Member members f
  caller {f} h = true_member members f (only_routine (member_of members) p h)

  -- no step leads to an exit outside the component: what the pass has of it, it was given
  pair_given : {g n r q : ℕ} → ¬ (Member members g) → n ≡ 1 → PassOf Z p members old marks g n r q → ExitOf Z marks g r q
  pair_given k e (seeded (entry m y) u) = absurd (k m)
  pair_given k e (seeded (summary z y) u) = y
  pair_given k e (by_action d s v u) = absurd (k (caller s))
  pair_given k e (by_call d s v u) = absurd (let z : ◌≡◌ {A = ℕ} 0 1 = e in omega arith)
  pair_given k e (by_return d s v d' v' u) = absurd (k (caller s))

  derives : {f n r q : ℕ} → Member members f → PassOf Z p members old marks f n r q → PassOf Z' p' members old' marks' f n r q
  derives m (seeded (entry {f = f} {r = r} z y) u) = seeded (entry z ((i.roots f r z).0 y)) tt
  derives m (seeded (summary k y) u) = absurd (k m)
  derives m (by_action d e v u) = by_action (derives m d) (same.steps e) (same.moves _ _ _ v) tt
  derives m (by_call d e v u) = by_call (derives (caller e) d) (same.steps e) (same.moves _ _ _ v) tt
  derives m (by_return {f = f} {n = n} {g = g} {m = t} {s = s} {x = x} d e v d' v' u) =
      let calls : CallEdge p f g = record { source = n; target = t; edge = only_step (member_of members) p e } in
      by_return {x = x} (derives m d) (same.steps e) (same.moves _ _ _ v)
      (elim (ℕ_discrete (get_or members g 0) 0) [
        | yes z ↦ let k : ¬ (Member members g) = λ h. h z in seeded (summary k ((i.summaries f g s x m calls k).0 (pair_given k refl d'))) tt
        | no k ↦ derives k d'
      ])
      (same.moves _ _ _ v') tt

-- ---- the theorem

pub depends : {Z Z' : Sizes} {members : List ℕ} {p p' : Program} {old old' marks marks' after after' : List ℕ} → Passed Z p members old marks after
    → Passed Z' p' members old' marks' after' → SameInputs Z Z' members p p' old old' marks marks' → (f n r q : ℕ) → Member members f
    → Marked Z after f n r q ↔ Marked Z' after' f n r q
depends a b i f n r q m =
    let here = a.inside f n r q m in
    let there = b.inside f n r q m in
    (λ x. there.1 (derives i m (here.0 x)), λ x. here.1 (derives (flipped i) m (there.0 x)))
