-- Main's entries are taken, and nothing else begins: an analysis has no iteration exactly where the program has no initial state.
use Prim.Native.Nat.{ℕ, ◌<◌}
use mathlib.Core.Path.{◌≡◌, refl, sym, ap, subst, ◌∙◌}
use mathlib.Core.Option.{Option, none, some}
use mathlib.Core.List.{List, [], ◌∷◌, Memᴰ}
use native.Mathlib.Omega.{arith}
use Rattle.base.specs.Flags.{On}
use Rattle.base.proofs.SetFlags.{eqb_on, none_on, set_on, on_set}
use Rattle.program.specs.Program.{Program}
use Rattle.reach.specs.Configurations.{InRange, number, none_set}
use Rattle.reach.specs.Worklist.{Worklist, lowest, mark, learn, work, opened, blank, analysis_at}
use Rattle.reach.proofs.Numbers.{number_fits}
use Rattle.reach.proofs.LowestPending.{lowest_on, lowest_none}
use Rattle.reach.proofs.ShapeKept.{mark_by, wake_by, Kept, opened_kept, none_length, work_done}
use Rattle.reach.proofs.LoopRuns.{Stopped, enough, too_few, analysis_stopped}
use Rattle.reach.proofs.TakingsBounded.{analysis_ends}
use Rattle.program.specs.declared.sizes.Sizes.{Sizes}
use Rattle.program.specs.Chosen.{numbers}
use Rattle.reach.specs.Sizes.{enough_iterations}
use Rattle.reach.specs.Configurations.{Usable}
use Rattle.reach.specs.Ranged.{Ranged}

module _ (Z : Sizes) (U : Usable Z) where
  -- what is pending stays so, while others are marked
  stays_pending : (j : ℕ) → Kept Z U (λ (s : Worklist). On s.pending j)
  unfolding learn
  stays_pending j =
      record {
        by_mark = λ i s o. mark_by (λ (t : Worklist). On t.pending j) i s (λ e. on_set s.pending i j o) (λ e. o);
        by_wake = λ i s o. wake_by (λ (t : Worklist). On t.pending j) i s (λ e. o) (λ e. on_set s.pending i j o);
        by_learn = λ f r q s o. o;
      }

  -- the first entry is newly marked, and so it is pending
  entry_pending : (j : ℕ) → j < numbers Z → On (mark j (blank Z)).pending j
  unfolding none_set
  entry_pending j h =
      mark_by (λ (t : Worklist). On t.pending j) j (blank Z) (λ e. set_on (none_set Z) j (omega (arith, none_length Z U)))
      (λ e. none_on (numbers Z) (eqb_on (none_set Z) j e))

  module _ (p : Program) (wf : Ranged Z p) where
    -- where the limit 0 is enough, nothing is pending at the start
    none_pending : (analysis_at Z p).iterations ≡ 0 → (j : ℕ) → ¬ (On (opened Z p.automaton.initial (blank Z)).pending j)
    unfolding work
    none_pending e j = go (analysis_stopped Z U p wf 0)
      where
        s : Worklist
        s = opened Z p.automaton.initial (blank Z)

        go : Stopped 0 (analysis_at Z p) s → ¬ (On s.pending j)
        go (enough a h) = lowest_none s.pending (ap (λ (t : Worklist). lowest t.pending 0) h ∙ analysis_ends Z U p wf) j
        go (too_few a h) = absurd (omega arith)

    -- and an entry would be
    first_pending : (q : ℕ) (qs : List ℕ) → p.automaton.initial ≡ q ∷ qs → On (opened Z (q ∷ qs) (blank Z)).pending (number Z 0 0 q q)
    unfolding opened
    first_pending q qs i =
        let z = wf in
        let q-small = z.begun (subst (λ (l : List ℕ). Memᴰ q l) (sym i) (Memᴰ.head refl)) in
        let range : InRange Z 0 0 q q = record { routine = omega arith; node = omega arith; root = omega (arith, z.states); state = omega (arith, z.states) } in
        opened_kept Z U (stays_pending (number Z 0 0 q q)) qs (mark (number Z 0 0 q q) (blank Z)) (entry_pending (number Z 0 0 q q) (number_fits range))

    pub none_taken : (analysis_at Z p).iterations ≡ 0 → p.automaton.initial ≡ []
    none_taken e = go p.automaton.initial refl
      where
        go : (qs : List ℕ) → p.automaton.initial ≡ qs → qs ≡ []
        go [] i = refl
        go (q ∷ qs) i =
            absurd (none_pending e (number Z 0 0 q q)
            (subst (λ (l : List ℕ). On (opened Z l (blank Z)).pending (number Z 0 0 q q)) (sym i) (first_pending q qs i)))

  -- ---- nothing begins without an initial state

  blank_none : lowest (blank Z).pending 0 ≡ none
  unfolding none_set
  blank_none = go (lowest (none_set Z) 0) refl
    where
      go : (o : Option ℕ) → lowest (none_set Z) 0 ≡ o → o ≡ none
      go none e = refl
      go (some i) e = none_on (numbers Z) (lowest_on (none_set Z) i e)

  pub none_begun : (p : Program) → p.automaton.initial ≡ [] → (analysis_at Z p).iterations ≡ 0
  unfolding analysis_at opened
  none_begun p i =
      ap (λ (qs : List ℕ). let s = opened Z qs (blank Z) in (work Z (enough_iterations Z) p (lowest s.pending 0) s).iterations) i
      ∙ ap (λ (s : Worklist). s.iterations) (work_done Z U (enough_iterations Z) p (blank Z) blank_none)
