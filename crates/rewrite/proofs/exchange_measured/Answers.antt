use Rattle.rewrite.proofs.ExchangesAnswer.{lengths_hold, measured_answer, unmeasured_answer, number_none}
use Rattle.program.specs.Decoded.{program_of}
use Rattle.program.specs.Chosen.{numbers}
use Rattle.std.proofs.Common.{◌≢◌, arith}
use Rattle.std.proofs.lemmas.Result.{err_from_is_err_and}
use Rattle.program.specs.Checks.{first_met}
use Rattle.program.specs.Refusals.{number, number_met}
use Rattle.program.proofs.RefusalNumbers.{some_number}
use Rattle.exchange.specs.Changes.{whole, Read}
use Rattle.exchange.specs.Decoded.{exchange_of}
use Rattle.exchange.specs.Lengths.{lengths_of, length_rows}
use Rattle.exchange.specs.declared.lengths.Lengths.{Lengths}
use lib.ListN.{length}
use mathlib.Core.Path.{◌≡◌, ap, sym, ◌∙◌}
use Rattle.rewrite.proofs.exchange_measured.Goals as goal
use Rattle.rewrite.proofs.exchange_measured.Goals.{After-check_lengths}

module _ (b : After-check_lengths) where
  -- what the lengths meet, by the sizes before and after
  met : number_met b.check_lengths.result
      ≡ first_met (length_rows (lengths_of b.sizes_of-before.result b.sizes_after-after.result) (length b.args.second.now) (length b.args.work.now))
  met = b.check_lengths.ensures
      ∙ ap (λ (l : Lengths). first_met (length_rows l (length b.args.second.now) (length b.args.work.now))) b.lengths_of.ensures

pub exchange_own-requires : goal.exchange_own-requires
exchange_own-requires c =
    let a = c.args in
    let i = c.sizes_of-before.ensures in
    let m = sym (met (goal.at.exchange_own-requires c).After-check_lengths) ∙ ap number_met c.in_ok-check_lengths.was in
    record {
      well_formed = (c.requires.well_formed.0, c.requires.well_formed.1, i, c.sizes_after-after.ensures);
      measured =
          lengths_hold _ _ a.marks.now a.output.now a.work.now a.second.now (c.requires.marks_len.0 ∙ ap numbers (sym i))
          c.requires.marks_len.1 m;
    }

pub returns-in_err-check_lengths : goal.returns-in_err-check_lengths
returns-in_err-check_lengths c =
    let z = c.args in
    let x = exchange_of z.exchange in
    let e = err_from_is_err_and c.from_residual.result c.from_residual.ensures.1 in
    let m = sym (ap number_met c.in_err-check_lengths.was) ∙ met (goal.at.returns-in_err-check_lengths c).After-check_lengths in
    let n : number c.in_err-check_lengths.field-0.0 ≢ 0 = λ d. absurd (omega (arith, some_number c.in_err-check_lengths.field-0.0)) in
    rw (e.1, e.2) (
      unmeasured_answer x (program_of z.p) z.marks.now z.output.now z.work.now z.second.now c.sizes_of-before.ensures c.sizes_after-after.ensures m n,
      λ i. number_none (Read (whole x)) (program_of z.p) n,
    )

pub returns : goal.returns
returns c =
    let z = c.args in
    let x = exchange_of z.exchange in
    let r = c.exchange_own.ensures in
    let m = met (goal.at.returns c).After-check_lengths in (
      r.0
          ∙ measured_answer x (program_of z.p) z.marks.now z.output.now z.work.now z.second.now c.sizes_of-before.ensures c.sizes_after-after.ensures
          m (ap number_met c.in_ok-check_lengths.was),
      r.1,
    )
