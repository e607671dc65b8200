-- An analysis with a limit: when it gives up, what it leaves then, and what a larger limit changes.
use mathlib.Core.Path.{◌≡◌, refl, sym, ap, subst, ◌∙◌}
use mathlib.Core.Logic.{◌↔◌, ◌≢◌}
use mathlib.Core.List.{[]}
use Prim.Native.Nat.{ℕ, zero, suc, ◌≤◌, ◌<◌}
use native.Mathlib.Omega.{arith}
use lib.ListN.{length, replicate}
use Rattle.program.specs.declared.sizes.Sizes.{Sizes}
use Rattle.program.specs.Chosen.{sizes_of}
use Rattle.program.specs.Program.{Program}
use Rattle.program.specs.WellFormed.{WellFormed}
use Rattle.program.specs.Verdicts.{Verdict}
use Rattle.program.specs.Verdicts.{Accepted, Refused}
use Rattle.std.specs.Prelude.{None, Some}
use Rattle.program.proofs.ChosenSizes.{admitted}
use Rattle.program.proofs.ChecksPassed.{passes, few_checks}
use Rattle.reach.specs.Sizes.{enough_iterations}
use Rattle.reach.specs.Configurations.{Usable, none_set}
use Rattle.reach.specs.Worklist.{analysis}
use Rattle.reach.specs.Takings.{taken_in}
use Rattle.reach.specs.Marks.{fresh_marks}
use Rattle.reach.proofs.TakingsBounded.{iterations_taken, iterations_bound}
use Rattle.reach.proofs.ProgramInSizes.{usable, ranged}
use Rattle.reach.proofs.EntriesTaken.{none_taken, none_begun}
use Rattle.program.specs.Checks.{followed_by}
use Rattle.analysis.specs.Answers.{checked_marks, limited, analyze_by, analyze_answer, on_success, marks_after, work_after}
use Rattle.analysis.proofs.LimitDecides.{enough_accepted, by_limit}
use Rattle.transcript.specs.Parts.{most_iterations}
use Rattle.transcript.proofs.AnswersPrinted.{most-iterations}
use Rattle.desk.specs.Entries.{analyze, Lent, Back, analyze_back, program_in, Gives}
use Rattle.demands.specs.Demands.{no_limit, with_limit, given_up}
use Rattle.demands.proofs.AnalysisAnswers.{checked_well_formed, analyzed}

-- what is given back, by what the checks say and by what the limit says
abbrev back_by : Lent → Verdict → Verdict → Back
back_by b v w =
    let p = program_in b in
    analyze_back b (analyze_by (followed_by v w) p) (on_success (followed_by v w) (fresh_marks p) b.marks) (on_success v (none_set (sizes_of p)) b.work)

abbrev checks_of : Lent → Verdict
checks_of b = checked_marks b.file b.marks b.work

gives : (b : Lent) (a : Back) → Gives analyze b a → a ≡ back_by b (checks_of b) (limited (program_in b) b.limit)
unfolding analyze_answer marks_after work_after
gives b a g = g

-- a refusal of the checks is another one
other : (b : Lent) {n line : ℕ} → checks_of b ≡ Refused n line → (0 < n) × (n ≢ 22)
other b e = let k = few_checks b.file (Some (length b.marks)) None (Some (length b.work)) e in (k.0, k.3)

-- where they are passed a giving up clears the working buffer, which has a byte for each number
clears : (b : Lent) → checks_of b ≡ Accepted → back_by b Accepted (Refused 22 0) ≡ given_up b
unfolding none_set
clears b e =
    let c = passes b.file (Some (length b.marks)) None (Some (length b.work)) e in
    ap (λ (n : ℕ). analyze_back b (analyze_by (Refused 22 0) (program_in b)) b.marks (replicate n 0)) (sym c.sized.work_length)

module _ (b : Lent) where
  -- by the checks, and by the limit where they refuse nothing
  by_both : (P : Back → Type 0) → ((n line : ℕ) → (0 < n) × (n ≢ 22) → P (back_by b (Refused n line) Accepted))
      → (checks_of b ≡ Accepted → (analysis (program_in b)).iterations ≤ b.limit → P (back_by b Accepted Accepted))
      → (checks_of b ≡ Accepted → b.limit < (analysis (program_in b)).iterations → P (given_up b)) → (a : Back) → Gives analyze b a → P a
  by_both P early within above a g = subst P (sym (gives b a g)) (go (checks_of b) refl)
    where
      go : (v : Verdict) → checks_of b ≡ v → P (back_by b v (limited (program_in b) b.limit))
      go Accepted e = by_limit (program_in b) b.limit (λ w. P (back_by b Accepted w)) (within e) (λ h. subst P (sym (clears b e)) (above e h))
      go (Refused n line) e = early n line (other b e)

-- what a giving up leaves
pub leaves : (b : Lent) (a : Back) → Gives analyze b a → a.refusal ≡ 22 → a ≡ given_up b
leaves b =
    by_both b (λ a. a.refusal ≡ 22 → a ≡ given_up b) (λ n line k z. absurd (k.1 z)) (λ e h z. absurd (omega arith)) (λ e h z. refl)

-- ---- limits that are enough

-- a limit that the procedure does not pass, where it is reached
never_passed : (b : Lent) (a : Back) → Gives analyze b a → (checks_of b ≡ Accepted → (analysis (program_in b)).iterations ≤ b.limit) → a.refusal ≢ 22
never_passed b a g l =
    by_both b (λ a. a.refusal ≢ 22) (λ n line k. k.1) (λ e h z. absurd (omega arith)) (λ e h z. absurd (omega (arith, h, l e))) a g

-- by the program's own sizes
bound : (b : Lent) → checks_of b ≡ Accepted → (analysis (program_in b)).iterations ≤ enough_iterations (sizes_of (program_in b))
bound b e = iterations_bound (sizes_of (program_in b)) (usable (program_in b) (checked_well_formed b e)) (program_in b)

-- by all that are admitted
bound_all : (b : Lent) → checks_of b ≡ Accepted → (analysis (program_in b)).iterations ≤ most_iterations
bound_all b e = omega (arith, bound b e, most-iterations (admitted (program_in b) (checked_well_formed b e)))

pub enough_never : (b : Lent) (a : Back) → Gives analyze b a → enough_iterations (sizes_of (program_in b)) ≤ b.limit → a.refusal ≢ 22
enough_never b a g l = never_passed b a g (λ e. omega (arith, l, bound b e))

pub most_never : (b : Lent) (a : Back) → Gives analyze b a → most_iterations ≤ b.limit → a.refusal ≢ 22
most_never b a g l = never_passed b a g (λ e. omega (arith, l, bound_all b e))

pub never : (b : Lent) (a : Back) → Gives analyze (with_limit no_limit b) a → a.refusal ≢ 22
never b a g = most_never (with_limit no_limit b) a g (omega arith)

-- ---- the same call with two limits

module _ (b : Lent) (limit : ℕ) (a c : Back) (g : Gives analyze b a) (h : Gives analyze (with_limit limit b) c) where
  -- an answer at a limit is the answer at each larger one
  pub larger : b.limit ≤ limit → a.refusal ≢ 22 → c ≡ a
  larger l ne = go (checks_of b) (gives b a g) (gives (with_limit limit b) c h)
    where
      go : (v : Verdict) → a ≡ back_by b v (limited (program_in b) b.limit) → c ≡ back_by b v (limited (program_in b) limit) → c ≡ a
      go (Refused n line) x y = y ∙ sym x
      go Accepted x y =
          by_limit (program_in b) b.limit (λ w. a ≡ back_by b Accepted w → c ≡ a)
          (λ e z. y ∙ ap (back_by b Accepted) (enough_accepted (program_in b) limit (omega (arith, e, l))) ∙ sym z) (λ e z. absurd (ne (ap (λ (r : Back). r.refusal) z))) x

-- the count of iterations is that of the takings
counted : (b : Lent) → checks_of b ≡ Accepted → (analysis (program_in b)).iterations ≡ length (taken_in (program_in b))
counted b e = iterations_taken (sizes_of (program_in b)) (usable (program_in b) (checked_well_formed b e)) (program_in b)

-- it gives up exactly when the procedure's count is above the limit
pub gives_up_when : (b : Lent) (a c : Back) → Gives analyze b a → Gives analyze (with_limit no_limit b) c
    → (a.refusal ≡ 22) ↔ ((c.refusal ≡ 0) × (b.limit < length (taken_in (program_in b))))
gives_up_when b a c g h = go (checks_of b) refl (gives b a g) (gives (with_limit no_limit b) c h)
  where
    q : Program
    q = program_in b

    Exactly : Type 0
    Exactly = (a.refusal ≡ 22) ↔ ((c.refusal ≡ 0) × (b.limit < length (taken_in q)))

    go : (v : Verdict) → checks_of b ≡ v → a ≡ back_by b v (limited q b.limit) → c ≡ back_by b v (limited q no_limit) → Exactly
    go (Refused n line) e x y =
        let k = other b e in
        let na = ap (λ (r : Back). r.refusal) x in
        let nc = ap (λ (r : Back). r.refusal) y in
        (λ z. absurd (k.1 (sym na ∙ z)), λ z. absurd (omega (arith, k.0, nc, z.0)))
    go Accepted e x y =
        let t = counted b e in
        let nc = ap (λ (r : Back). r.refusal) (y ∙ ap (back_by b Accepted) (enough_accepted q no_limit (omega (arith, bound_all b e)))) in
        by_limit q b.limit (λ w. a ≡ back_by b Accepted w → Exactly)
        (λ l z. let na = ap (λ (r : Back). r.refusal) z in (λ n. absurd (omega (arith, na, n)), λ n. absurd (omega (arith, l, t, n.1))))
        (λ l z. let na = ap (λ (r : Back). r.refusal) z in (λ n. (nc, omega (arith, l, t)), λ n. na)) x

-- 0 is too little exactly where there is an initial state
pub zero_limit : (b : Lent) (a c : Back) → Gives analyze b a → Gives analyze (with_limit no_limit b) c → b.limit ≡ 0
    → (a.refusal ≡ 22) ↔ ((c.refusal ≡ 0) × ((program_in b).automaton.initial ≢ []))
zero_limit b a c g h l =
    let u = gives_up_when b a c g h in (
      λ n. let k = u.0 n in (k.0, λ i. absurd (omega (arith, k.1, takings k.0, none_begun Z (U k.0) q i))),
      λ k. u.1 (k.0, omega (arith, l, takings k.0, taken k (analysis q).iterations refl)),
    )
  where
    q : Program
    q = program_in b

    Z : Sizes
    Z = sizes_of q

    formed : c.refusal ≡ 0 → WellFormed q
    formed z = (analyzed (with_limit no_limit b) c h z).well_formed

    U : c.refusal ≡ 0 → Usable Z
    U z = usable q (formed z)

    takings : c.refusal ≡ 0 → (analysis q).iterations ≡ length (taken_in q)
    takings z = iterations_taken Z (U z) q

    taken : (c.refusal ≡ 0) × (q.automaton.initial ≢ []) → (n : ℕ) → (analysis q).iterations ≡ n → 0 < n
    taken k zero e = absurd (k.1 (none_taken Z (U k.0) q (ranged q (formed k.0)) e))
    taken k (suc n) e = omega arith
