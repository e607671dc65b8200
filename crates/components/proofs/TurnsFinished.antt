-- The pass of a component within its turn, the test whether there is to be one, and the end of the inside-out repair.
use mathlib.Core.Path.{◌≡◌, refl, sym, subst}
use mathlib.Core.Logic.{◌⊎◌, inl, inr, ◌↔◌}
use mathlib.Core.List.{List}
use Prim.Native.Nat.{ℕ, ◌<◌}
use native.Mathlib.Omega.{arith}
use lib.ListN.{length, get_or}
use Rattle.automaton.specs.Sizes.{max_states}
use Rattle.automaton.specs.Automaton.{Automaton}
use Rattle.program.specs.Sizes.{max_routines}
use Rattle.program.specs.Program.{Program}
use Rattle.reach.specs.Configurations.{Set, Sub}
use Rattle.reach.specs.Reachable.{seeded, root, Reachable}
use Rattle.reach.specs.Marks.{Marked, Shows, fresh_at}
use Rattle.reach.proofs.LeastSetLaws.{Within, grows}
use Rattle.reach.proofs.ProgramInSizes.{reachable_in_range, reachable_state, reachable_root}
use Rattle.reach.proofs.ShapeKept.{marks-length, marks_bits}
use Rattle.reach.proofs.AnalysisExact.{analysis_exact}
use Rattle.reach.proofs.MarksShown.{shows_same, one_list, reachable_shown}
use Rattle.callgraph.specs.Components.{CallEdge, Leads, directly, through, Together, OldRoot, Anew, Changed, Reanalyzed, Member, member_of}
use Rattle.roots.specs.Roots.{RootOf, Live, begun, called, LiveMarked}
use Rattle.roots.specs.Parts.{RootFlags}
use Rattle.passes.specs.Passes.{only_of, PassSeeds, entry, summary, ExitOf, PassOf}
use Rattle.passes.specs.PassParts.{Passable}
use Rattle.components.specs.TurnParts.{DropOf, Ranks, Before, turn_of, first_turn, end_turn, Working}
use Rattle.reanalysis.specs.Parts.{Differs, CallsDiffering}
use Rattle.components.proofs.ComponentsAnew.{Passing, pass_anew, anew_pass, root_old, anew_old, called_old, live_exact}
use Rattle.passes.proofs.EdgesOfRoutines.{only_step, only_routine, step_only}
use Rattle.callgraph.proofs.RoutineSets.{member_true, true_member, member_small, member_dec}
use Rattle.callgraph.proofs.ComponentsFromFlags.{called_small, caller_small}
use Rattle.components.proofs.TurnsWork.{dropped, called_done}
use Rattle.program.specs.declared.sizes.Sizes.{Sizes}

module _ {Z : Sizes} where
  -- ---- leads

  leads_small : {p p' : Program} {edited : ℕ} → DropOf Z p p' edited → {f g : ℕ} → Leads p' f g → g < max_routines
  leads_small {p' = p'} h (directly e) = called_small p' h.well_formed e
  leads_small h (through e l) = leads_small h l

  -- ---- the turn of routine f, with its component

  module _ {p p' : Program} {edited : ℕ} (h : DropOf Z p p' edited) {rank : ℕ → ℕ} (k : Ranks p' rank) {i : ℕ} {marks done reanalyzed : List ℕ}
      (w : Working Z p p' edited rank i marks done reanalyzed) (f : ℕ) (hf : f < max_routines) (turn : turn_of rank f ≡ i) (not_done : ¬ (Member done f))
      (members : List ℕ) (members-length : length members ≡ max_routines) (is_member : (g : ℕ) → g < max_routines → Member members g ↔ Together p' f g) where
    outside_done : (g c : ℕ) → Member members g → CallEdge p' g c → ¬ (Member members c) → Member done c
    outside_done g c m e x = called_done h k w f hf turn not_done members members-length is_member (member_small members g members-length m) m e x

    -- ---- the pass

    passing : Passing (dropped h) (Member members) (only_of (member_of members) p') (ExitOf Z marks)
    passing =
        record {
          member = member_dec members;
          within = record { steps = λ x. only_step (member_of members) p' x; moves = λ q e s v. v };
          moves = λ q e s v. v;
          steps = λ {f = g} m x. step_only (member_of members) p' (member_true members g m) x;
          only = λ {f = g} x. true_member members g (only_routine (member_of members) p' x);
          given = λ {f = a} {n = n} {m = m} {g = b} c e x s y. w.worked b 1 s y (outside_done a b c (record { source = n; target = m; edge = e }) x);
        }

    module _ (roots : List ℕ) (r : RootFlags (OldRoot p) roots) where
      to_old : {g x : ℕ} → RootOf roots g x → OldRoot p g x
      to_old {g} {x} z = (r.flagged g x z.0 z.1).0 z.2

      from_old : {g x : ℕ} → OldRoot p g x → RootOf roots g x
      from_old {g} {x} o = let z = reachable_in_range Z h.sized.usable p h.old_ranged o in
          let a : g < max_routines = omega (arith, z.routine, h.sized.admitted.routines) in
          let b : x < max_states = omega (arith, z.root, h.sized.admitted.states) in
          (a, b, (r.flagged g x a b).1 o)

      seeds_old : {g n x q : ℕ} → PassSeeds (Member members) (RootOf roots) (ExitOf Z marks) g n x q → PassSeeds (Member members) (OldRoot p) (ExitOf Z marks) g n x q
      seeds_old (entry m z) = entry m (to_old z)
      seeds_old (summary m z) = summary m z

      old_seeds : {g n x q : ℕ} → PassSeeds (Member members) (OldRoot p) (ExitOf Z marks) g n x q → PassSeeds (Member members) (RootOf roots) (ExitOf Z marks) g n x q
      old_seeds (entry m z) = entry m (from_old z)
      old_seeds (summary m z) = summary m z

      -- what the pass derives of the component is what is worked anew from all old roots
      pub pass_is : (g n x q : ℕ) → Member members g → PassOf Z p' members roots marks g n x q ↔ Anew p p' g n x q
      pass_is g n x q m = (
        λ z. pass_anew (dropped h) passing m (grows same (record { at = seeds_old }) (record { at = λ y. y }) z),
        λ z. grows same (record { at = old_seeds }) (record { at = λ y. y }) (anew_pass (dropped h) passing m z),
      )
        where
          same : Within (only_of (member_of members) p') (only_of (member_of members) p')
          same = record { steps = λ y. y; moves = λ q e s v. v }

      -- it may begin
      pub passable : Passable Z p' members roots marks
      passable =
          record {
            marks-length = w.marks-length;
            marks_bits = w.marks_bits;
            states = λ {f = g} {n = n} {r = x} {q = q} m. state (reached g n x q m);
            root_routines = λ z. (reachable_in_range Z h.sized.usable p h.old_ranged (to_old z)).routine;
            root_states = λ {f = g} {r = y} z. subst (λ (a : Automaton). y < a.states) (sym h.automaton) (reachable_root Z h.sized.usable p h.old_ranged (to_old z));
            covered = λ {f = g} {n = n} {r = x} {q = q} {g = c} {m = t} {s = s} m z e v y.
                let a = (pass_is g n x q m).0 z in
                let o = called_old (dropped h) a e v in
                (w.worked c 0 s s (outside_done g c m (record { source = n; target = t; edge = e }) y)).1 (seeded (root o) tt);
          }
        where
          reached : (g n x q : ℕ) → Marked Z marks g n x q → Reachable p g n x q
          reached g n x q m = elim (member_dec done g) [ yes d ↦ anew_old (dropped h) ((w.worked g n x q d).0 m) | no d ↦ (w.old g n x q d).0 m ]

          state : {g n x q : ℕ} → Reachable p g n x q → q < p'.automaton.states
          state {g} {n} {x} {q} o = subst (λ (a : Automaton). q < a.states) (sym h.automaton) (reachable_state Z h.sized.usable p h.old_ranged o)

    -- ---- whether there is to be one

    module _ (before : List ℕ) (b : Before Z p before) where
      -- of a routine that is done: its summaries on the sheet are others than before exactly if they have changed
      differs_changed : (c : ℕ) → c < Z.routines → Member done c → Differs Z before marks c → Changed p p' c
      differs_changed c hc d z =
          let x = z.root in
          let q = z.state in
          let old = b.flagged c x q hc z.root_small z.state_small in
          let new = w.worked c 1 x q d in
          elim z.differs [
            | inl y ↦ record { root = x; state = q; old = root_old (dropped h) (old.0 y.0); differs = inl (old.0 y.0, λ a. y.1 (new.1 a)) }
            | inr y ↦
                record {
                  root = x;
                  state = q;
                  old = root_old (dropped h) (anew_old (dropped h) (new.0 y.1));
                  differs = inr (new.0 y.1, λ o. old.1 o y.0);
                }
          ]

      changed_differs : (c : ℕ) → c < Z.routines → Member done c → Changed p p' c → Differs Z before marks c
      changed_differs c hc d z =
          let x = z.root in
          let q = z.state in
          let new = w.worked c 1 x q d in
          elim z.differs [
            | inl y ↦
                let s = reachable_in_range Z h.sized.usable p h.old_ranged y.0 in
                record {
                  root = x;
                  state = q;
                  root_small = s.root;
                  state_small = s.state;
                  differs = inl ((b.flagged c x q hc s.root s.state).1 y.0, λ m. y.1 (new.0 m));
                }
            | inr y ↦ absurd (y.1 (anew_old (dropped h) y.0))
          ]

      pub reanalyzed_is : (Member members edited ⊎ CallsDiffering Z p' members before marks) ↔ Reanalyzed p p' edited f
      reanalyzed_is = (there, back)
        where
          there : Member members edited ⊎ CallsDiffering Z p' members before marks → Reanalyzed p p' edited f
          there (inl m) = record { member = edited; together = (is_member edited (member_small members edited members-length m)).0 m; reason = inl refl }
          there (inr c) =
              let hc = called_small p' h.well_formed c.calls in
              record {
                member = c.member;
                together = (is_member c.member (caller_small p' h.well_formed c.calls)).0 c.is_member;
                reason =
                    inr (record {
                      called = c.called;
                      calls = c.calls;
                      outside = λ t. c.outside ((is_member c.called hc).1 t);
                      changed = differs_changed c.called (h.sized.ranged.called c.calls.edge) (outside_done c.member c.called c.is_member c.calls c.outside) c.differing;
                    });
              }

          together_small : {g : ℕ} → Together p' f g → g < max_routines
          together_small (inl e) = subst (λ (x : ℕ). x < max_routines) e hf
          together_small (inr l) = leads_small h l.0

          back : Reanalyzed p p' edited f → Member members edited ⊎ CallsDiffering Z p' members before marks
          back o =
              let hg = together_small o.together in
              let m = (is_member o.member hg).1 o.together in
              elim o.reason [
                | inl e ↦ inl (subst (Member members) e m)
                | inr c ↦
                    let hc = called_small p' h.well_formed c.calls in
                    let x : ¬ (Member members c.called) = λ y. c.outside ((is_member c.called hc).0 y) in
                    inr (record {
                      member = o.member;
                      called = c.called;
                      is_member = m;
                      calls = c.calls;
                      outside = x;
                      differing = changed_differs c.called (h.sized.ranged.called c.calls.edge) (outside_done o.member c.called m c.calls x) c.changed;
                    })
              ]

  -- ---- the first turn, and after the last

  module _ {p p' : Program} {edited : ℕ} (h : DropOf Z p p' edited) {rank : ℕ → ℕ} (k : Ranks p' rank) where
    pub first-turn : (done reanalyzed : List ℕ) → length done ≡ max_routines → length reanalyzed ≡ max_routines → ((f : ℕ) → get_or done f 0 ≡ 0) → ((f : ℕ) → get_or reanalyzed f 0 ≡ 0)
        → Working Z p p' edited rank first_turn (fresh_at Z p) done reanalyzed
    first-turn done reanalyzed a b c d =
        record {
          marks-length = marks-length Z h.sized.usable p;
          marks_bits = marks_bits Z h.sized.usable p;
          done_length = a;
          reanalyzed_length = b;
          earlier = λ f hf lt. absurd (omega (arith, k.low f hf));
          whole = λ f g hf hg m t. absurd (m (c f));
          worked = λ f n r q m. absurd (m (c f));
          old = λ f n r q m. analysis_exact Z h.sized.usable p h.old_ranged f n r q;
          right = λ f hf m. absurd (m (c f));
          none_yet = λ f m x. x (d f);
        }

    module _ {marks done reanalyzed : List ℕ} (w : Working Z p p' edited rank end_turn marks done reanalyzed) where
      within_most : {f : ℕ} → f < Z.routines → f < max_routines
      within_most l = omega (arith, l, h.sized.admitted.routines)

      all_done : (f : ℕ) → f < max_routines → Member done f
      all_done f hf = w.earlier f hf (omega (arith, k.high f hf))

      pub all_right : (f : ℕ) → f < max_routines → Member reanalyzed f ↔ Reanalyzed p p' edited f
      all_right f hf = w.right f hf (all_done f hf)

      anew_marked : {f n r q : ℕ} → Anew p p' f n r q → Marked Z marks f n r q
      anew_marked {f} {n} {r} {q} a =
          (w.worked f n r q (all_done f (within_most (reachable_in_range Z h.sized.usable p h.old_ranged (anew_old (dropped h) a)).routine))).1 a

      marked_anew : {f n r q : ℕ} → Marked Z marks f n r q → Anew p p' f n r q
      marked_anew {f} {n} {r} {q} m = (w.worked f n r q (all_done f (within_most m.0.routine))).0 m

      live_sub : {M N : Set} → Sub M N → {f r : ℕ} → Live p' M f r → Live p' N f r
      live_sub s (begun m) = begun m
      live_sub s (called l x e v) = called (live_sub s l) (s.at x) e v

      -- what has a root that occurs is marked as afresh
      pub cut_fresh : (marks' : List ℕ) → Shows Z (LiveMarked Z p' marks) marks' → marks' ≡ fresh_at Z p'
      cut_fresh marks' s = one_list Z h.sized.usable (shows_same Z h.sized.usable (record { at = there }) (record { at = back }) s) (reachable_shown Z h.sized.usable p' h.sized.ranged)
        where
          there : {f n r q : ℕ} → LiveMarked Z p' marks f n r q → Reachable p' f n r q
          there x = (live_exact (dropped h)).0 (live_sub (record { at = marked_anew }) x.0, marked_anew x.1)

          back : {f n r q : ℕ} → Reachable p' f n r q → LiveMarked Z p' marks f n r q
          back x = let z = (live_exact (dropped h)).1 x in (live_sub (record { at = anew_marked }) z.0, anew_marked z.1)
