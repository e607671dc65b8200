use Rattle.std.proofs.Common.{◌≢◌, eqb, ap, subst, sym, ◌∙◌, arith}
use Rattle.std.proofs.lemmas.Result.{err_from_is_err_and}
use Rattle.program.specs.Decoded.{program_of}
use Rattle.program.specs.Refusals.{number}
use Rattle.program.proofs.RefusalNumbers.{some_number}
use Rattle.writer.specs.Answers.{refusal}
use Rattle.exchange.specs.Changes.{ChangeRead, ExchangeText}
use Rattle.exchange_text.specs.Wanted.{wanted_change}
use Rattle.exchange_text.proofs.Theorems.{wanted_change_applies}
use Rattle.repair.specs.Repairs.{wanted_by, plain, reanalyzed, InsideOutNumber}
use Rattle.repair.specs.RepairAnswers.{repair_answer_by}
use Rattle.rewrite.proofs.ExchangesAnswer.{number_none}
use Rattle.rewrite.proofs.exchange_wanted.Goals as goal

pub exchange_measured-requires : goal.exchange_measured-requires
exchange_measured-requires c =
    record {
      well_formed = (c.requires.well_formed, wanted_change_applies ExchangeText (program_of c.args.p) c.args.text.now _ (sym c.in_ok-exchange.ensures));
      marks_len = c.requires.marks_len;
    }

pub returns-in_err-exchange : goal.returns-in_err-exchange
returns-in_err-exchange c =
    let z = c.args in
    let p = program_of z.p in
    let e = err_from_is_err_and c.from_residual.result c.from_residual.ensures.1 in
    let n : number c.in_err-exchange.field-0.0 ≢ 0 = λ d. absurd (omega (arith, some_number c.in_err-exchange.field-0.0)) in
    rw (e.1, e.2) (
      ap (λ (w : ChangeRead). wanted_by w p z.marks.now z.output.now z.work.now z.second.now) c.in_err-exchange.ensures,
      λ i. number_none (wanted_change ExchangeText p z.text.now) p n,
    )

pub returns : goal.returns
returns c =
    let z = c.args in
    let p = program_of z.p in
    let r = c.exchange_measured in
    let y = repair_answer_by r.result in
    let h = c.in_ok-exchange.ensures in (
      r.ensures.0 ∙ ap (λ (w : ChangeRead). wanted_by w p z.marks.now z.output.now z.work.now z.second.now) h,
      λ i. subst (λ (w : ChangeRead). InsideOutNumber (eqb (refusal (plain y)) 0) w p (reanalyzed y)) h (r.ensures.1 i),
    )
