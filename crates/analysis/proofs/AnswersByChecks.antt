-- The answers, by what the checks say.
use Prim.Native.Nat.{ℕ}
use mathlib.Core.Path.{◌≡◌, refl, sym, ap, subst, ◌∙◌}
use mathlib.Core.Bool.{Bool, true, false, not}
use mathlib.Core.List.{List, [], ◌∷◌}
use native.Mathlib.Omega.{arith}
use lib.Dec.{eqb}
use borrow.Author.Tests.{eqb-true, eq-eqb}
use Rattle.program.specs.Chosen.{sizes_of}
use Rattle.program.specs.Program.{Program}
use Rattle.program.specs.Reading.{read_file}
use Rattle.program.specs.Checks.{row, first_met, verdict_of, followed_by}
use Rattle.program.specs.Verdicts.{Verdict}
use Rattle.program.specs.Verdicts.{Accepted, Refused}
use Rattle.base.proofs.Bools.{both}
use Rattle.reach.specs.Configurations.{none_set}
use Rattle.reach.specs.Marks.{fresh_marks, violations, violations_from, first_from}
use Rattle.violations.specs.Views.{option_view}
use Rattle.std.specs.Prelude.{Option, Some, None, Ok}
use Rattle.analysis.specs.NextAnswers.{next_answer_by}
use Rattle.analysis.specs.Answers.{checked_marks, limited, analyze_by, analyze_answer, on_success, marks_after, work_after, same, owned, found_of, found_by, next_answer}

-- the answers and the lent bytes, by the verdict of the checks before anything is touched
module _ (file marks work : List ℕ) {v : Verdict} {p : Program} (d : v ≡ checked_marks file marks work) (e : p ≡ (read_file file).program) where
  pub analyze_answered : (limit : ℕ) → let w = followed_by v (limited p limit) in
      (analyze_by w p ≡ analyze_answer file marks work limit)
      × (on_success w (fresh_marks p) marks ≡ marks_after file marks work limit) × (on_success v (none_set (sizes_of p)) work ≡ work_after file marks work)
  unfolding analyze_answer marks_after work_after
  analyze_answered limit = (
    λ i. analyze_by (followed_by (d i) (limited (e i) limit)) (e i),
    λ i. on_success (followed_by (d i) (limited (e i) limit)) (fresh_marks (e i)) marks,
    λ i. on_success (d i) (none_set (sizes_of (e i))) work,
  )

  pub next_answered : (low : ℕ)
      → (found_by (followed_by v (owned p marks)) (first_from low (violations p)) ≡ next_answer file marks work low)
      × (on_success v (none_set (sizes_of p)) work ≡ work_after file marks work)
  unfolding next_answer work_after
  next_answered low =
      (λ i. found_by (followed_by (d i) (owned (e i) marks)) (first_from low (violations (e i))), λ i. on_success (d i) (none_set (sizes_of (e i))) work)

-- ---- the same bytes

pub same_self : (l : List ℕ) → same l l ≡ true
unfolding same
same_self [] = refl
same_self (x ∷ l) = rw (eq-eqb x x refl, same_self l)

pub same_equal : (l k : List ℕ) → same l k ≡ true → l ≡ k
unfolding same
same_equal [] [] e = refl
same_equal [] (y ∷ k) e = absurd (let z : ◌≡◌ {A = ℕ} 0 1 = cc in omega arith)
same_equal (x ∷ l) [] e = absurd (let z : ◌≡◌ {A = ℕ} 0 1 = cc in omega arith)
same_equal (x ∷ l) (y ∷ k) e =
    let w = both (eqb x y) (same l k) e in
    λ i. eqb-true x y w.0 i ∷ same_equal l k w.1 i

-- a comparison that is right both ways says whether they are the same
pub same_decides : (r : Bool) (l k : List ℕ) → (r ≡ true → l ≡ k) × (l ≡ k → r ≡ true) → r ≡ same l k
same_decides r l k h = go r h (same l k) refl
  where
    go : (r : Bool) → (r ≡ true → l ≡ k) × (l ≡ k → r ≡ true) → (t : Bool) → same l k ≡ t → r ≡ t
    go true h t e = sym (sym e ∙ subst (λ (x : List ℕ). same x k ≡ true) (sym (h.0 refl)) (same_self k))
    go false h true e = h.1 (same_equal l k e)
    go false h false e = refl

-- ---- the program's own marks, or foreign ones

-- what a search gives
found_is : (o : Option ℕ) → next_answer_by (Ok o) ≡ found_of (option_view o)
found_is None = refl
found_is (Some i) = refl

module _ (p : Program) (marks : List ℕ) where
  pub own_accepted : same marks (fresh_marks p) ≡ true → Accepted ≡ owned p marks
  unfolding first_met
  own_accepted e = rw e

  pub foreign_refused : same marks (fresh_marks p) ≡ false → Refused 17 0 ≡ owned p marks
  unfolding first_met
  foreign_refused e = rw e

  -- one or the other
  pub by_marks : (P : Verdict → Type 0) → (same marks (fresh_marks p) ≡ true → P Accepted) → (same marks (fresh_marks p) ≡ false → P (Refused 17 0)) → P (owned p marks)
  unfolding first_met
  by_marks P a f = go (same marks (fresh_marks p)) a f
    where
      go : (t : Bool) → (t ≡ true → P Accepted) → (t ≡ false → P (Refused 17 0)) → P (verdict_of (first_met (row 17 (not t) ∷ [])))
      go true a f = a refl
      go false a f = f refl

  pub accepted_own : owned p marks ≡ Accepted → marks ≡ fresh_marks p
  accepted_own =
      by_marks (λ v. v ≡ Accepted → marks ≡ fresh_marks p) (λ t e. same_equal marks (fresh_marks p) t)
      (λ t e. absurd (let z : ◌≡◌ {A = ℕ} 0 1 = cc in omega arith))

  pub refused_foreign : {n line : ℕ} → owned p marks ≡ Refused n line → n ≡ 17
  refused_foreign {n} {line} =
      by_marks (λ v. v ≡ Refused n line → n ≡ 17) (λ t e. absurd (let z : ◌≡◌ {A = ℕ} 0 1 = cc in omega arith)) (λ t e. cc)

  pub own_found : (low : ℕ) (o : Option ℕ) → owned p marks ≡ Accepted
      → first_from low (violations_from (sizes_of p) p marks 0) ≡ option_view o
      → next_answer_by (Ok o) ≡ found_by (owned p marks) (first_from low (violations p))
  own_found low o e f = rw e (found_is o ∙ ap found_of (sym (rw (accepted_own e) at f)))
