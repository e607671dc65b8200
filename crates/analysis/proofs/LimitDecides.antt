-- The limit is enough and what was analyzed is the program's own, or the analysis is given up.
use Prim.Native.Nat.{ℕ, ◌≤◌, ◌<◌}
use mathlib.Core.Path.{◌≡◌, refl, sym, ap, subst, ◌∙◌}
use mathlib.Core.Bool.{Bool, true, false}
use mathlib.Core.List.{List, [], ◌∷◌}
use native.Mathlib.Omega.{arith}
use lib.Dec.{ltb}
use lib.ListN.{length}
use borrow.Author.Tests.{lt-ltb, le-ltb, ltb-true, ltb-false, leb-true, leb-false}
use Rattle.program.specs.Chosen.{sizes_of, numbers}
use Rattle.program.specs.Program.{Program}
use Rattle.program.specs.WellFormed.{WellFormed}
use Rattle.program.specs.Checks.{row, first_met, verdict_of, followed_by}
use Rattle.program.specs.Verdicts.{Verdict}
use Rattle.program.specs.Verdicts.{Accepted, Refused}
use Rattle.reach.specs.Sizes.{enough_iterations}
use Rattle.reach.specs.Worklist.{Worklist, analysis}
use Rattle.reach.specs.Marks.{fresh_at, fresh_marks}
use Rattle.reach.proofs.ProgramInSizes.{usable, ranged, sized}
use Rattle.reach.specs.Ranged.{Sized}
use Rattle.program.specs.declared.sizes.Sizes.{Sizes}
use Rattle.reach.proofs.ShapeKept.{marks-length}
use Rattle.reach.proofs.TakingsBounded.{iterations_bound}
use Rattle.worklist.specs.Parts.{analysis_within, Analyzed}
use Rattle.worklist.proofs.AnalysisLimited.{limit_enough}
use Rattle.analysis.specs.Answers.{limited}

module _ (p : Program) (limit : ℕ) where
  pub enough_accepted : (analysis p).iterations ≤ limit → limited p limit ≡ Accepted
  unfolding first_met
  enough_accepted h = rw (le-ltb limit (analysis p).iterations h)

  above_refused : limit < (analysis p).iterations → limited p limit ≡ Refused 22 0
  unfolding first_met
  above_refused h = rw (lt-ltb limit (analysis p).iterations h)

  -- one or the other
  pub by_limit : (P : Verdict → Type 0) → ((analysis p).iterations ≤ limit → P Accepted) → (limit < (analysis p).iterations → P (Refused 22 0)) → P (limited p limit)
  unfolding first_met
  by_limit P a r = go (ltb limit (analysis p).iterations) (λ e. a (ltb-false _ _ e)) (λ e. r (ltb-true _ _ e))
    where
      go : (t : Bool) → (t ≡ false → P Accepted) → (t ≡ true → P (Refused 22 0)) → P (verdict_of (first_met (row 22 t ∷ [])))
      go true a r = r refl
      go false a r = a refl

-- so many iterations are enough for every program, and refuse nothing
pub unlimited : (v : Verdict) (p : Program) → WellFormed p → followed_by v (limited p (enough_iterations (sizes_of p))) ≡ v
unlimited v p wf = rw (enough_accepted p (enough_iterations (sizes_of p)) (iterations_bound (sizes_of p) (usable p wf) p)) (go v)
  where
    go : (v : Verdict) → followed_by v Accepted ≡ v
    go Accepted = refl
    go (Refused n line) = refl

-- a limit that is enough leaves the whole analysis
enough_whole : {Z : Sizes} {limit : ℕ} (p : Program) → WellFormed p → Z ≡ sizes_of p → (analysis p).iterations ≤ limit → {m : List ℕ} {n : ℕ} {t : Bool} → Analyzed Z p limit m n t
    → (m ≡ fresh_marks p) × (n ≡ (analysis p).iterations)
enough_whole {Z} {limit} p wf e h a =
    let w = ap (λ (z : Sizes). analysis_within z limit p) e ∙ limit_enough (sizes_of p) (usable p wf) p (ranged p wf) limit h in
    (a.marks ∙ ap (λ (s : Worklist). s.marks) w, a.iterations ∙ ap (λ (s : Worklist). s.iterations) w)

-- what is left of an analysis, where it has ended and where it has not
module _ (p : Program) (wf : WellFormed p) (limit : ℕ) {m : List ℕ} {n : ℕ} {t : Bool} (a : Analyzed (sizes_of p) p limit m n t) where
  pub gives_up : t ≡ false → limited p limit ≡ Refused 22 0
  gives_up e = above_refused p limit (leb-false _ _ (sym a.ended ∙ e))

  module _ (e : t ≡ true) where
    enough : (analysis p).iterations ≤ limit
    enough = leb-true _ _ (sym a.ended ∙ e)

    pub ended_accepted : limited p limit ≡ Accepted
    ended_accepted = enough_accepted p limit enough

    pub ended_marks : m ≡ fresh_marks p
    ended_marks = (enough_whole p wf refl enough a).0

    pub ended_count : n ≡ (analysis p).iterations
    ended_count = (enough_whole p wf refl enough a).1

    pub ended_length : length m ≡ numbers (sizes_of p)
    ended_length = ap length ended_marks ∙ marks-length (sizes_of p) (usable p wf) p

-- sizes that are the program's own
pub own_sized : {Z : Sizes} (p : Program) → Z ≡ sizes_of p → WellFormed p → Sized Z p
own_sized p e wf = subst (λ (y : Sizes). Sized y p) (sym e) (sized p wf)

-- without a limit the marks are the fresh ones, in whatever sizes the program is within
pub sized_marks : {Z : Sizes} {limit : ℕ} (p : Program) → Sized Z p → limit ≡ enough_iterations Z → {m : List ℕ} {n : ℕ} {t : Bool} → Analyzed Z p limit m n t → m ≡ fresh_at Z p
sized_marks {Z} {limit} p s l a =
    a.marks ∙ ap (λ (w : Worklist). w.marks) (limit_enough Z s.usable p s.ranged limit (omega (arith, iterations_bound Z s.usable p)))

-- and in its own sizes the program's own
pub own_marks : {Z : Sizes} {limit : ℕ} (p : Program) → WellFormed p → Z ≡ sizes_of p → limit ≡ enough_iterations Z → {m : List ℕ} {n : ℕ} {t : Bool} → Analyzed Z p limit m n t → m ≡ fresh_marks p
own_marks p wf e l a = sized_marks p (own_sized p e wf) l a ∙ ap (λ (z : Sizes). fresh_at z p) e
