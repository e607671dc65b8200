-- The marks of the full analysis are exactly the reachable configurations.
use mathlib.Core.Path.{◌≡◌, refl, sym, ◌∙◌}
use mathlib.Core.Logic.{◌↔◌}
use mathlib.Core.Option.{none}
use Prim.Native.Nat.{ℕ}
use native.Mathlib.Decide.{ℕ_discrete}
use lib.ListN.{get_or, length-replicate}
use lib.Seq.{ext_get_or}
use Rattle.program.specs.Program.{Program}
use Rattle.reach.specs.Configurations.{Set, none_set}
use Rattle.reach.specs.Reachable.{Derivable, Initial, Any, Reachable}
use Rattle.reach.specs.Worklist.{Worklist, lowest, work, opened, blank, analysis_at}
use Rattle.reach.specs.Marks.{Marked}
use Rattle.reach.proofs.ProgramInSizes.{Proper, initial_proper}
use Rattle.reach.proofs.LowestPending.{lowest_none}
use Rattle.base.proofs.SetFlags.{zeros}
use Rattle.reach.proofs.ShapeKept.{work_shape}
use Rattle.reach.proofs.WorklistInvariant.{Follows, work_follows, follows_exact, opened_follows}
use Rattle.reach.proofs.ExitsSettled.{Settled, opened_settled}
use Rattle.reach.proofs.TakingsBounded.{follow_ends}
use Rattle.program.specs.declared.sizes.Sizes.{Sizes}
use Rattle.program.specs.Chosen.{numbers}
use Rattle.reach.specs.Sizes.{enough_iterations}
use Rattle.reach.specs.Configurations.{Usable}
use Rattle.reach.specs.Ranged.{Ranged}

module _ (Z : Sizes) (U : Usable Z) where
  -- ---- from any worklist that follows from seeds

  module _ (p : Program) (w : Ranged Z p) (S : Set) (h : Proper Z p S) (s : Worklist) (v : Follows Z U p S s) where
    -- once nothing is pending, exactly what is derivable from the seeds is marked
    pub follow_exact : (k : ℕ) → lowest (work Z k p (lowest s.pending 0) s).pending 0 ≡ none
        → (f n r q : ℕ) → Marked Z (work Z k p (lowest s.pending 0) s).marks f n r q ↔ Derivable p S Any f n r q
    follow_exact k e f n r q =
        let x = follows_exact Z U p S w h (work Z k p (lowest s.pending 0) s) (work_follows Z U p S w h k s v) e f n r q in
        (λ c. x.0 (c.0, record { on = c.1 }), λ d. let c = x.1 d in (c.0, c.1.on))

    -- the iterations that are always enough, from a settled one
    pub follow_exact_ended : Settled Z U s → (f n r q : ℕ)
        → Marked Z (work Z (enough_iterations Z) p (lowest s.pending 0) s).marks f n r q ↔ Derivable p S Any f n r q
    follow_exact_ended c = follow_exact (enough_iterations Z) (follow_ends Z U p S w h s v c)

    -- and the bytes of what is pending are all 0
    pub follow_clear : Settled Z U s → (work Z (enough_iterations Z) p (lowest s.pending 0) s).pending ≡ none_set Z
    unfolding none_set
    follow_clear c =
        let l = (work Z (enough_iterations Z) p (lowest s.pending 0) s).pending in
        let z = work_shape Z U (enough_iterations Z) p (lowest s.pending 0) s refl v.shape in
        ext_get_or 0 l (none_set Z) (z.pending_length ∙ sym (length-replicate {A = ℕ} (numbers Z) 0))
        (λ i b.
        elim (ℕ_discrete (get_or l i 0) 0) [
          | yes e ↦ e ∙ sym (zeros (numbers Z) i)
          | no ne ↦ absurd (lowest_none l (follow_ends Z U p S w h s v c) i (record { on = ne }))
        ])

  -- ---- the full analysis

  module _ (p : Program) (w : Ranged Z p) where
    pub analysis_follows : Follows Z U p (Initial p) (analysis_at Z p)
    unfolding analysis_at
    analysis_follows =
        let z = w in
        work_follows Z U p (Initial p) z (initial_proper Z U p z) (enough_iterations Z) (opened Z p.automaton.initial (blank Z)) (opened_follows Z U p z)

    pub analysis_exact : (f n r q : ℕ) → Marked Z (analysis_at Z p).marks f n r q ↔ Reachable p f n r q
    unfolding analysis_at
    analysis_exact =
        let z = w in
        follow_exact_ended p w (Initial p) (initial_proper Z U p z) (opened Z p.automaton.initial (blank Z)) (opened_follows Z U p z) (opened_settled Z U p z)

    pub pending_clear : (analysis_at Z p).pending ≡ none_set Z
    unfolding analysis_at
    pending_clear =
        let z = w in
        follow_clear p w (Initial p) (initial_proper Z U p z) (opened Z p.automaton.initial (blank Z)) (opened_follows Z U p z) (opened_settled Z U p z)
