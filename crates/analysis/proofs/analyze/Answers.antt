use Rattle.std.proofs.Common.{refl, ◌∙◌}
use Rattle.std.proofs.lemmas.Result.{err_from_is_err_and}
use Rattle.analysis.proofs.AnswersByChecks.{analyze_answered}
use Rattle.analysis.proofs.analyze.Goals as goal

pub returns-in_err-p : goal.returns-in_err-p
returns-in_err-p c =
    let z = c.args in
    let p = err_from_is_err_and c.from_residual.result c.from_residual.ensures.1 in
    rw (p.1, p.2) (analyze_answered z.file.now z.marks.now z.work.now c.in_err-p.ensures.verdict refl z.limit)

pub returns : goal.returns
returns c =
    let z = c.args in
    let k = c.in_ok-p.ensures in
    let w = analyze_answered z.file.now z.marks.now z.work.now k.verdict k.passed.program z.limit in
    let a = c.analyze_counts.ensures in
    (a.0 ∙ w.0, a.1 ∙ w.1, a.2 ∙ w.2)
