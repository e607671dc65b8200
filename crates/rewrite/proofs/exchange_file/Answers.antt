use Rattle.std.proofs.Common.{eqb, refl, ◌∙◌, None, Some}
use Rattle.std.proofs.lemmas.Result.{err_from_is_err_and}
use lib.ListN.{length}
use Rattle.writer.specs.Answers.{refusal}
use Rattle.exchange.specs.Changes.{ExchangeText}
use Rattle.repair.specs.Repairs.{plain, reanalyzed}
use Rattle.repair.specs.RepairAnswers.{repair_answer_by}
use Rattle.repair.proofs.RepairsAnswer.{checked_answer}
use Rattle.repair.proofs.InsideOutNumbers.{number_unchecked, number_checked}
use Rattle.rewrite.proofs.exchange_file.Goals as goal

pub exchange_wanted-requires : goal.exchange_wanted-requires
exchange_wanted-requires c =
    let k = c.in_ok-p.ensures.passed in
    record { well_formed = k.well_formed; marks_len = (k.sized.marks-length, k.sized.output_length) }

pub returns-in_err-p : goal.returns-in_err-p
returns-in_err-p c =
    let z = c.args in
    let k = c.in_err-p.ensures in
    let e = err_from_is_err_and c.from_residual.result c.from_residual.ensures.1 in
    rw (e.1, e.2) (
      checked_answer ExchangeText z.file.now z.marks.now z.text.now z.output.now z.work.now z.second.now k.verdict refl,
      λ i. number_unchecked ExchangeText z.file.now z.text.now (Some (length z.marks.now)) (Some (length z.output.now)) None k.verdict,
    )

pub returns : goal.returns
returns c =
    let z = c.args in
    let k = c.in_ok-p.ensures in
    let r = c.exchange_wanted.ensures in
    let y = repair_answer_by c.exchange_wanted.result in (
      r.0 ∙ checked_answer ExchangeText z.file.now z.marks.now z.text.now z.output.now z.work.now z.second.now k.verdict k.passed.program,
      λ i. number_checked ExchangeText z.file.now z.text.now k.passed.program (eqb (refusal (plain y)) 0) (reanalyzed y) (r.1 i),
    )
