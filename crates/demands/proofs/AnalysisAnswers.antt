-- A full analysis that is not refused: its marks, its counts, its iterations; and the next violation.
use mathlib.Core.Path.{◌≡◌, refl, sym, ap, subst, ◌∙◌}
use mathlib.Core.Logic.{◌↔◌}
use mathlib.Core.Bool.{Bool, true, false}
use mathlib.Core.Option.{Option, none, some}
use mathlib.Core.List.Memᴰ
use mathlib.Core.List.{List, [], ◌∷◌, Memᴰ}
use Prim.Native.Nat.{ℕ}
use native.Mathlib.Omega.{arith}
use lib.ListN.{length}
use Rattle.automaton.specs.Automaton.{is_rejecting}
use Rattle.program.specs.declared.sizes.Sizes.{Sizes}
use Rattle.program.specs.Chosen.{sizes_of}
use Rattle.program.specs.Program.{Program}
use Rattle.program.specs.WellFormed.{WellFormed}
use Rattle.program.specs.Verdicts.{Verdict}
use Rattle.program.specs.Verdicts.{Accepted, Refused}
use Rattle.std.specs.Prelude.{None, Some}
use Rattle.program.proofs.ChecksPassed.{passes, few_checks}
use Rattle.reach.specs.Configurations.{number}
use Rattle.reach.specs.Runs.{Occurs}
use Rattle.reach.specs.Sizes.{summaries}
use Rattle.reach.specs.Worklist.{analysis}
use Rattle.reach.specs.Marks.{Shows, fresh_marks, violations, first_from}
use Rattle.base.specs.Flags.{count_set}
use Rattle.reach.specs.Violations.{Violation, First, nowhere, at}
use Rattle.reach.proofs.Numbers.{state-of, number_fits, to_number}
use Rattle.reach.proofs.ProgramInSizes.{usable, ranged}
use Rattle.reach.proofs.TakingsBounded.{iterations_taken, most_times}
use Rattle.reach.proofs.AnalysisExact.{pending_clear}
use Rattle.reach.proofs.MarksShown.{every_byte, fresh_shows, occurs_in_range}
use Rattle.reach.proofs.ViolationsExact.{listed_iff, next_violation, violations_ascend}
use Rattle.program.specs.Checks.{followed_by}
use Rattle.analysis.specs.Answers.{checked_marks, limited, analyze_by, analyze_answer, analyze_refusal, configuration_count, violation_count, iteration_count, on_success, marks_after, owned, found_of, found_by, next_answer, next_refusal, next_found}
use Rattle.analysis.specs.NextAnswers.{NextAnswer}
use Rattle.analysis.proofs.AnswersByChecks.{by_marks}
use Rattle.analysis.proofs.LimitDecides.{by_limit}
use Rattle.desk.specs.Entries.{analyze, next_violation as next-entry, Lent, Values, counts, Back, program_in, Gives}
use Rattle.demands.specs.Demands.{Demand2, Safe, Next, least, nothing, Procedure}
use Rattle.demands.proofs.RefusalsReturned.{both_ways}

-- a call whose checks are passed has a well-formed program
pub checked_well_formed : (b : Lent) → checked_marks b.file b.marks b.work ≡ Accepted → WellFormed (program_in b)
checked_well_formed b e = (passes b.file (Some (length b.marks)) None (Some (length b.work)) e).well_formed

-- and a refusal has a number
pub not_none : (b : Lent) {n line : ℕ} {A : Type 0} → checked_marks b.file b.marks b.work ≡ Refused n line → n ≡ 0 → A
not_none b e z = absurd (omega (arith, few_checks b.file (Some (length b.marks)) None (Some (length b.work)) e))

-- ---- what is given back

abbrev numbers_by : Verdict → Program → Values
numbers_by v p = counts (configuration_count (analyze_by v p)) (violation_count (analyze_by v p)) (iteration_count (analyze_by v p))

pub record Analyzed (b : Lent) (a : Back) : Type 0 where
  pub well_formed : WellFormed (program_in b)
  pub marks : a.marks ≡ fresh_marks (program_in b)
  pub values : a.values ≡ counts (count_set (fresh_marks (program_in b))) (length (violations (program_in b))) (analysis (program_in b)).iterations

pub analyzed : (b : Lent) (a : Back) → Gives analyze b a → a.refusal ≡ 0 → Analyzed b a
unfolding analyze_answer marks_after
analyzed b a g z =
    go (checked_marks b.file b.marks b.work) refl
    (ap (λ (x : Back). x.values) g) (ap (λ (x : Back). x.marks) g) (sym (ap (λ (x : Back). x.refusal) g) ∙ z)
  where
    p : Program
    p = program_in b

    Given : Verdict → Type 0
    Given v = a.values ≡ numbers_by v p → a.marks ≡ on_success v (fresh_marks p) b.marks → analyze_refusal (analyze_by v p) ≡ 0 → Analyzed b a

    go : (v : Verdict) → checked_marks b.file b.marks b.work ≡ v → Given (followed_by v (limited p b.limit))
    go Accepted e =
        by_limit p b.limit Given (λ h n m y. record { well_formed = checked_well_formed b e; marks = m; values = n }) (λ h n m y. absurd (omega arith))
    go (Refused n line) e = λ i m y. not_none b e y

-- ---- demand 2

pub analyzed_exact : (b : Lent) (a : Back) → Gives analyze b a → a.refusal ≡ 0 → Demand2 (sizes_of (program_in b)) (program_in b) a
analyzed_exact b a g z =
    let x = analyzed b a g z in
    let p = program_in b in
    let Z = sizes_of p in
    let U = usable p x.well_formed in
    let shows = fresh_shows Z U p (ranged p x.well_formed) in
    let s = subst (Shows Z (Occurs p)) (sym x.marks) shows in
    record {
      bytes = s.len;
      marked = s.shown;
      numbered = occurs_in_range Z U p (ranged p x.well_formed);
      others = every_byte Z U s;
      configurations = ap (λ (v : Values). v.configurations) x.values ∙ ap count_set (sym x.marks);
      violation-count = ap (λ (v : Values). v.violations) x.values;
      violating = listed_iff Z U shows;
      ascending = violations_ascend Z U p (fresh_marks p) 0;
    }

-- ---- no violation, and no run into a rejecting state

module _ (p : Program) (w : WellFormed p) where
  abbrev Z : Sizes
  Z = sizes_of p

  listed : (i : ℕ) → Memᴰ i (violations p) ↔ Violation Z p i
  listed = listed_iff Z (usable p w) (fresh_shows Z (usable p w) p (ranged p w))

  -- a run into a rejecting state is a violation
  violates : {f n r q : ℕ} → Occurs p f n r q → is_rejecting p.automaton q ≡ true → Violation Z p (number Z f n r q)
  violates {f} {n} {r} {q} o h =
      let i = occurs_in_range Z (usable p w) p (ranged p w) o in
      record { inside = number_fits i; occurs = to_number (Occurs p) i o; rejects = rw (state-of i) h }

  none_safe : length (violations p) ≡ 0 → Safe p
  none_safe e f n r q below run = go (is_rejecting p.automaton q) refl
    where
      empty : (vs : List ℕ) → length vs ≡ 0 → {i : ℕ} → Memᴰ i vs → ⊥
      empty [] h m = Memᴰ.not-nil m
      empty (v ∷ vs) h m = absurd (omega arith)

      go : (t : Bool) → is_rejecting p.automaton q ≡ t → is_rejecting p.automaton q ≡ false
      go true h = absurd (empty (violations p) e ((listed (number Z f n r q)).1 (violates (record { below = below; run = run }) h)))
      go false h = h

  safe_none : Safe p → length (violations p) ≡ 0
  safe_none s = go (violations p) (λ i m. (listed i).0 m)
    where
      go : (vs : List ℕ) → ((i : ℕ) → Memᴰ i vs → Violation Z p i) → length vs ≡ 0
      go [] k = refl
      go (v ∷ vs) k =
          let x = k v (Memᴰ.head refl) in
          let no = s _ _ _ _ x.occurs.below x.occurs.run in
          absurd (both_ways (sym no ∙ x.rejects))

pub count_safe : (b : Lent) (a : Back) → Gives analyze b a → a.refusal ≡ 0 → (a.values.violations ≡ 0) ↔ Safe (program_in b)
count_safe b a g z =
    let x = analyzed b a g z in
    let n = ap (λ (v : Values). v.violations) x.values in
    (λ h. none_safe (program_in b) x.well_formed (sym n ∙ h), λ s. n ∙ safe_none (program_in b) x.well_formed s)

-- ---- the procedure

pub procedure_ends : (b : Lent) (a : Back) → Gives analyze b a → a.refusal ≡ 0 → Procedure (program_in b) a
unfolding summaries
procedure_ends b a g z =
    let x = analyzed b a g z in
    let p = program_in b in
    let Z = sizes_of p in
    let U = usable p x.well_formed in
    record {
      ends = pending_clear Z U p (ranged p x.well_formed);
      iterations = ap (λ (v : Values). v.iterations) x.values ∙ iterations_taken Z U p;
      at_most = most_times Z U p (ranged p x.well_formed);
    }

-- ---- the next violation

pub next_given : (b : Lent) (a : Back) → Gives next-entry b a → a.refusal ≡ 0 → Next (sizes_of (program_in b)) (program_in b) b.from a.values.found
unfolding next_answer
next_given b a g z =
    subst (Next (sizes_of (program_in b)) (program_in b) b.from) (sym (ap (λ (x : Back). x.values.found) g))
    (go (checked_marks b.file b.marks b.work) refl (sym (ap (λ (x : Back). x.refusal) g) ∙ z))
  where
    p : Program
    p = program_in b

    Z : Sizes
    Z = sizes_of p

    found : (o : Option ℕ) → First (Violation Z p) b.from o → Next Z p b.from (next_found (found_of o))
    found none (nowhere h) = nothing h
    found (some i) (at x h y) = least x h y

    by : Verdict → NextAnswer
    by v = found_by v (first_from b.from (violations p))

    own : WellFormed p → next_refusal (by (owned p b.marks)) ≡ 0 → Next Z p b.from (next_found (by (owned p b.marks)))
    own w =
        by_marks p b.marks (λ v. next_refusal (by v) ≡ 0 → Next Z p b.from (next_found (by v)))
        (λ t y. found (first_from b.from (violations p)) (next_violation Z (usable p w) (fresh_shows Z (usable p w) p (ranged p w)) b.from)) (λ t y. absurd (omega arith))

    go : (v : Verdict) → checked_marks b.file b.marks b.work ≡ v → next_refusal (by (followed_by v (owned p b.marks))) ≡ 0
        → Next Z p b.from (next_found (by (followed_by v (owned p b.marks))))
    go Accepted e y = own (checked_well_formed b e) y
    go (Refused n line) e y = not_none b e y
