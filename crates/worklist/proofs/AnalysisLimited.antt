-- A limit on the iterations of the analysis: it is enough and the analysis has ended, or something is pending still.
use Prim.Native.Nat.{ℕ, ◌≤◌}
use mathlib.Core.Path.{◌≡◌, refl, sym, ap, ◌∙◌}
use mathlib.Core.Logic.{◌↔◌}
use mathlib.Core.Bool.{Bool, true, false}
use mathlib.Core.Option.{none}
use mathlib.Core.List.{List}
use native.Mathlib.Omega.{arith}
use lib.Dec.{leb}
use borrow.Author.Tests.{le-leb, lt-leb}
use Rattle.program.specs.Program.{Program}
use Rattle.reach.specs.Worklist.{Worklist, lowest, analysis_at}
use Rattle.reach.proofs.LoopRuns.{Stopped, enough, too_few, analysis_stopped}
use Rattle.reach.proofs.TakingsBounded.{analysis_ends}
use Rattle.worklist.specs.Parts.{analysis_within}
use Rattle.program.specs.declared.sizes.Sizes.{Sizes}
use Rattle.reach.specs.Configurations.{Usable}
use Rattle.reach.specs.Ranged.{Ranged}

module _ (Z : Sizes) (U : Usable Z) where
  module _ (p : Program) (wf : Ranged Z p) (limit : ℕ) where
    within_stopped : Stopped limit (analysis_at Z p) (analysis_within Z limit p)
    unfolding analysis_within
    within_stopped = analysis_stopped Z U p wf limit

    -- a limit that is enough changes nothing
    pub limit_enough : (analysis_at Z p).iterations ≤ limit → analysis_within Z limit p ≡ analysis_at Z p
    limit_enough h = go within_stopped
      where
        go : Stopped limit (analysis_at Z p) (analysis_within Z limit p) → analysis_within Z limit p ≡ analysis_at Z p
        go (enough a e) = e
        go (too_few a e) = absurd (omega arith)

    -- it is enough exactly when nothing is pending
    pub ended_is : (pending : List ℕ) → pending ≡ (analysis_within Z limit p).pending → (t : Bool) → (t ≡ true) ↔ (lowest pending 0 ≡ none)
        → t ≡ leb (analysis_at Z p).iterations limit
    ended_is pending is t h = go t h within_stopped
      where
        low : lowest pending 0 ≡ lowest (analysis_within Z limit p).pending 0
        low = ap (λ (l : List ℕ). lowest l 0) is

        go : (t : Bool) → (t ≡ true) ↔ (lowest pending 0 ≡ none) → Stopped limit (analysis_at Z p) (analysis_within Z limit p) → t ≡ leb (analysis_at Z p).iterations limit
        go t h (enough a e) = h.1 (low ∙ ap (λ (s : Worklist). lowest s.pending 0) e ∙ analysis_ends Z U p wf) ∙ sym (le-leb _ _ a)
        go true h (too_few a e) = absurd (e (sym low ∙ h.0 refl))
        go false h (too_few a e) = sym (lt-leb _ _ a)
