-- The pass over a component, as a whole: from the first marks, what follows by the edges of its routines is what the pass derives, and of the
-- other routines nothing is marked anew.
use Prim.Native.Nat.{ℕ, ◌≤◌}
use mathlib.Core.Path.{◌≡◌, refl, sym, ◌∙◌}
use mathlib.Core.Logic.{◌≢◌}
use mathlib.Core.Bool.{Bool, true, false, cond, ◌&&◌}
use mathlib.Core.List.{List}
use native.Mathlib.Omega.{arith}
use native.Mathlib.Decide.{ℕ_discrete}
use lib.Dec.{eqb}
use lib.ListN.{get_or}
use borrow.Author.Tests.{eqb-true, eq-eqb}
use Rattle.base.specs.Flags.{is_set}
use Rattle.program.specs.Program.{Program}
use Rattle.program.specs.WellFormed.{WellFormed}
use Rattle.base.proofs.Bools.{both}
use Rattle.reach.specs.Configurations.{InRange, number, routine_of, node_of, root_of, state_of, root_place}
use Rattle.reach.specs.Reachable.{seeded, by_action, by_call, by_return}
use Rattle.reach.specs.Ranged.{Sized}
use Rattle.reach.specs.Marks.{Marked, Shows}
use Rattle.reach.proofs.LeastSetLaws.{grows}
use Rattle.reach.proofs.Numbers.{routine-of, node-of, root-of, state-of, number_fits}
use Rattle.base.specs.Filled.{Filled}
use Rattle.base.proofs.BytesFilled.{filled_bits}
use Rattle.callgraph.specs.Components.{member_of, Member}
use Rattle.callgraph.proofs.ComponentsFromFlags.{bit_small}
use Rattle.callgraph.proofs.RoutineSets.{member_true, true_member, member_dec}
use Rattle.roots.specs.Roots.{RootOf}
use Rattle.passes.specs.Passes.{PassSeeds, entry, summary, ExitOf, PassOf, Passed}
use Rattle.passes.specs.PassParts.{Passable, root_mark, first_of, first_marks, Ready, ByMembers}
use Rattle.passes.proofs.EdgesOfRoutines.{only_step, only_routine, only_within}
use Rattle.passes.proofs.RoundsClose.{shown_marked, marked_shown}
use Rattle.program.specs.declared.sizes.Sizes.{Sizes}
use Rattle.program.specs.Chosen.{numbers}

-- ---- the first marks

-- what the first mark of a member is: 1 at an entry in one of its roots
record AtRoot (roots : List ℕ) (f n r q : ℕ) : Type 0 where
  entry : n ≡ 0
  same : r ≡ q
  root : get_or roots (root_place f q) 0 ≢ 0

root-mark : (roots : List ℕ) (f n r q : ℕ) → root_mark roots f n r q ≢ 0 → AtRoot roots f n r q
root-mark roots f n r q h = go (eqb n 0 && eqb r q && is_set roots (root_place f q)) refl h
  where
    go : (t : Bool) → eqb n 0 && eqb r q && is_set roots (root_place f q) ≡ t → ◌≢◌ {A = ℕ} (cond t 1 0) 0 → AtRoot roots f n r q
    go true e h =
        let a = both (eqb n 0 && eqb r q) (is_set roots (root_place f q)) e in
        let b = both (eqb n 0) (eqb r q) a.0 in
        record { entry = eqb-true n 0 b.0; same = eqb-true r q b.1; root = true_member roots (root_place f q) a.1 }
    go false e h = absurd (h refl)

mark_root : (roots : List ℕ) (f q : ℕ) → get_or roots (root_place f q) 0 ≢ 0 → root_mark roots f 0 q q ≡ 1
mark_root roots f q h = rw (eq-eqb q q refl, member_true roots (root_place f q) h)

module _ {Z : Sizes} where
  module _ {p : Program} {members roots marks first : List ℕ} (w : WellFormed p) (s : Sized Z p) (a : Passable Z p members roots marks)
      (x : Filled (first_marks Z members roots marks) (numbers Z) first) where
    byte : {f n r q : ℕ} → InRange Z f n r q → get_or first (number Z f n r q) 0 ≡ first_of members roots (get_or marks (number Z f n r q) 0) f n r q
    byte {f} {n} {r} {q} h = x.byte (number Z f n r q) (number_fits h) ∙ rw (routine-of h, node-of h, root-of h, state-of h)

    byte_in : {f n r q : ℕ} → Member members f → InRange Z f n r q → get_or first (number Z f n r q) 0 ≡ root_mark roots f n r q
    byte_in {f} m h = byte h ∙ rw (member_true members f m)

    byte_out : {f n r q : ℕ} → ¬ (Member members f) → InRange Z f n r q → get_or first (number Z f n r q) 0 ≡ get_or marks (number Z f n r q) 0
    byte_out {f} m h =
        elim (ℕ_discrete (get_or members f 0) 0) [
          | yes e ↦ byte h ∙ rw (eq-eqb (get_or members f 0) 0 e)
          | no e ↦ absurd (m e)
        ]

    in_root : {f n r q : ℕ} → Member members f → Marked Z first f n r q → AtRoot roots f n r q
    in_root {f} {n} {r} {q} m y = root-mark roots f n r q (λ e. y.1 (byte_in m y.0 ∙ e))

    out_marked : {f n r q : ℕ} → ¬ (Member members f) → Marked Z first f n r q → Marked Z marks f n r q
    out_marked m y = (y.0, λ e. y.1 (byte_out m y.0 ∙ e))

    marked_out : {f n r q : ℕ} → ¬ (Member members f) → Marked Z marks f n r q → Marked Z first f n r q
    marked_out m y = (y.0, λ e. y.1 (sym (byte_out m y.0) ∙ e))

    root_first : {f r : ℕ} → Member members f → RootOf roots f r → Marked Z first f 0 r r
    root_first {f} {r} m y =
        let h : InRange Z f 0 r r =
        record {
          routine = a.root_routines y;
          node = omega (arith, s.usable.nodes);
          root = omega (arith, a.root_states y, s.ranged.states);
          state = omega (arith, a.root_states y, s.ranged.states);
        } in
        (h, λ e. omega (arith, mark_root roots f r y.2, byte_in m h))

    root_of_roots : {f n r q : ℕ} → InRange Z f n r q → get_or roots (root_place f q) 0 ≢ 0 → RootOf roots f q
    root_of_roots h e = (omega (arith, h.routine, s.admitted.routines), omega (arith, h.state, s.admitted.states), e)

    old_or_root : (t : Bool) {old b : ℕ} → old ≤ 1 → b ≤ 1 → cond t b old ≤ 1
    old_or_root true h k = k
    old_or_root false h k = h

    pub first_ready : Ready Z p first
    first_ready =
        record {
          well_formed = w;
          sized = s;
          marks-length = x.len;
          marks_bits = filled_bits x (λ i.
              old_or_root (member_of members (routine_of Z i)) (a.marks_bits i)
              (bit_small (eqb (node_of Z i) 0 && eqb (root_of Z i) (state_of Z i) && is_set roots (root_place (routine_of Z i) (state_of Z i)))));
          states = λ {f} {n} {r} {q} y.
              elim (member_dec members f) [
                | yes m ↦
                    let e = in_root m y in
                    a.root_states {f = f} {r = q} (root_of_roots y.0 e.root)
                | no m ↦ a.states (out_marked m y)
              ];
        }

    -- ---- what follows by the edges of the routines, and what the pass derives

    exit_given : {g n s z : ℕ} → ¬ (Member members g) → n ≡ 1 → ByMembers Z p members first g n s z → Marked Z marks g n s z
    exit_given m e (seeded y u) = out_marked m y
    exit_given {g} m e (by_action d s v u) = absurd (m (true_member members g (only_routine (member_of members) p s)))
    exit_given m e (by_call d s v u) = absurd (let z : ◌≡◌ {A = ℕ} 0 1 = e in omega arith)
    exit_given {g} m e (by_return d s v d' v' u) = absurd (m (true_member members g (only_routine (member_of members) p s)))

    to_pass : {f n r q : ℕ} → Member members f → ByMembers Z p members first f n r q → PassOf Z p members roots marks f n r q
    to_pass {f} {n} {r} {q} m (seeded y u) =
        let e = in_root m y in
        let s : PassSeeds (Member members) (RootOf roots) (ExitOf Z marks) f 0 q q = entry m (root_of_roots y.0 e.root) in
        rw (e.entry, e.same) (seeded s tt)
    to_pass m (by_action d s v u) = by_action (to_pass m d) s v tt
    to_pass m (by_call {f = f} d s v u) = by_call (to_pass (true_member members f (only_routine (member_of members) p s)) d) s v tt
    to_pass m (by_return {g = g} {s = s} {x = z} d e v d' v' u) =
        by_return {x = z} (to_pass m d) e v
        (elim (member_dec members g) [ yes k ↦ to_pass k d' | no k ↦ seeded (summary k (exit_given k refl d')) tt ])
        v' tt

    first_seeds : {f n r q : ℕ} → PassSeeds (Member members) (RootOf roots) (ExitOf Z marks) f n r q → Marked Z first f n r q
    first_seeds (entry m y) = root_first m y
    first_seeds (summary m y) = marked_out m y

    from_pass : {f n r q : ℕ} → PassOf Z p members roots marks f n r q → ByMembers Z p members first f n r q
    from_pass d = grows (only_within (member_of members) p (member_of members) (λ k e. e)) (record { at = first_seeds }) (record { at = λ y. y }) d

    -- outside only entries that are called could be marked, and these are marked
    stays : {f n r q : ℕ} → ¬ (Member members f) → ByMembers Z p members first f n r q → Marked Z marks f n r q
    stays m (seeded y u) = out_marked m y
    stays {f} m (by_action d s v u) = absurd (m (true_member members f (only_routine (member_of members) p s)))
    stays m (by_call {f = f} d e v u) =
        let k = true_member members f (only_routine (member_of members) p e) in
        a.covered k (to_pass k d) (only_step (member_of members) p e) v m
    stays {f} m (by_return d s v d' v' u) = absurd (m (true_member members f (only_routine (member_of members) p s)))

    pub passed : {marks' : List ℕ} → Shows Z (ByMembers Z p members first) marks' → Passed Z p members roots marks marks'
    passed s =
        let to = marked_shown first_ready (member_of members) s in
        let back = shown_marked s in
        record {
          marks-length = s.len;
          marks_bits = s.bit;
          inside = λ f n r q m. (λ y. to_pass m (back.at y), λ d. to.at (from_pass d));
          outside = λ f n r q m. (λ y. stays m (back.at y), λ y. to.at (seeded (marked_out m y) tt));
        }
