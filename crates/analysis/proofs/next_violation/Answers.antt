-- `analysis::next_violation` meets its contract: what the checks pass is searched for the first violation.
use Rattle.std.proofs.Common.{◌≡◌, length, refl, sym, ap, subst, ◌∙◌, rules}
use Rattle.std.proofs.lemmas.Result.{err_from_is_err_and}
use Rattle.automaton.specs.Sizes.{max_states}
use Rattle.program.specs.Chosen.{numbers}
use Rattle.program.specs.Decoded.{program_of}
use Rattle.program.specs.Verdicts.{Verdict}
use Rattle.program.specs.declared.sizes.Sizes.{Sizes}
use Rattle.reach.specs.Marks.{violations, violations_from, first_from}
use Rattle.analysis.specs.Answers.{found_by}
use Rattle.violations.specs.Views.{option_view}
use Rattle.analysis.proofs.AnswersByChecks.{next_answered, own_found}
use Rattle.analysis.proofs.LimitDecides.{own_sized}
use Rattle.analysis.proofs.next_violation.Goals as goal

pub returns-in_err-p : goal.returns-in_err-p
returns-in_err-p c =
    let z = c.args in
    let p = err_from_is_err_and c.from_residual.result c.from_residual.ensures.1 in
    rw (p.1, p.2) (next_answered z.file.now z.marks.now z.work.now c.in_err-p.ensures.verdict refl z.low)

pub returns-in_err-check_own : goal.returns-in_err-check_own
returns-in_err-check_own c =
    let z = c.args in
    let k = c.in_ok-p.ensures in
    let w = next_answered z.file.now z.marks.now z.work.now k.verdict k.passed.program z.low in
    let o = c.in_err-check_own.ensures in
    let r = c.from_residual-in_err-check_own in
    let p = err_from_is_err_and r.result r.ensures.1 in
    rw (p.1, p.2) (ap (λ (v : Verdict). found_by v (first_from z.low (violations (program_of c.in_ok-p.p)))) o.0 ∙ w.0, o.1 ∙ w.1)

pub first_violation-requires : goal.first_violation-requires
first_violation-requires c =
    let k = c.in_ok-p.ensures.passed in
    let e = c.sizes_of.ensures in
    let s = own_sized (program_of c.in_ok-p.p) e k.well_formed in
    let r = c.rejecting_flags-rejecting in
    let o = r.type_inv in
    let f : length r.result.flags ≡ max_states = search (rules, o) in
    (s.usable, s.admitted, k.sized.marks-length ∙ ap numbers (sym e), f)

pub returns : goal.returns
returns c =
    let z = c.args in
    let k = c.in_ok-p.ensures in
    let p = program_of c.in_ok-p.p in
    let w = next_answered z.file.now z.marks.now z.work.now k.verdict k.passed.program z.low in
    let o = c.in_ok-check_own.ensures in
    let i = c.first_violation in (
      own_found p _ z.low i.result (sym o.0)
          (subst (λ (y : Sizes). first_from z.low (violations_from y p z.marks.now 0) ≡ option_view i.result) c.sizes_of.ensures
          (i.ensures p c.rejecting_flags-rejecting.ensures))
          ∙ w.0,
      o.1 ∙ w.1,
    )
