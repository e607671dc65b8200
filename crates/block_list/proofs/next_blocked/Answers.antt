-- `block_list::next_blocked` meets its contract: what the checks pass is searched for the first place.
use Rattle.std.proofs.Common.{refl, sym, ap, ◌∙◌}
use Rattle.std.proofs.lemmas.Result.{err_from_is_err_and}
use Rattle.program.specs.Chosen.{numbers}
use Rattle.program.specs.Decoded.{program_of}
use Rattle.program.specs.Verdicts.{Verdict}
use Rattle.analysis.proofs.LimitDecides.{own_sized}
use Rattle.blocked.specs.Blocks.{next_block}
use Rattle.block_list.specs.Answers.{block_by}
use Rattle.block_list.proofs.AnswersByBlocks.{block_answered, own_block}
use Rattle.block_list.proofs.next_blocked.Goals as goal

pub returns-in_err-p : goal.returns-in_err-p
returns-in_err-p c =
    let z = c.args in
    let p = err_from_is_err_and c.from_residual.result c.from_residual.ensures.1 in
    rw (p.1, p.2) (block_answered z.file.now z.marks.now z.work.now c.in_err-p.ensures.verdict refl z.low)

pub returns-in_err-check_own : goal.returns-in_err-check_own
returns-in_err-check_own c =
    let z = c.args in
    let k = c.in_ok-p.ensures in
    let w = block_answered z.file.now z.marks.now z.work.now k.verdict k.passed.program z.low in
    let o = c.in_err-check_own.ensures in
    let r = c.from_residual-in_err-check_own in
    let p = err_from_is_err_and r.result r.ensures.1 in
    rw (p.1, p.2) (ap (λ (v : Verdict). block_by v (next_block (program_of c.in_ok-p.p) z.low)) o.0 ∙ w.0, o.1 ∙ w.1)

pub first_blocked-requires : goal.first_blocked-requires
first_blocked-requires c =
    let k = c.in_ok-p.ensures.passed in
    let e = c.sizes_of.ensures in
    (k.well_formed, own_sized (program_of c.in_ok-p.p) e k.well_formed, k.sized.marks-length ∙ ap numbers (sym e))

pub returns : goal.returns
returns c =
    let z = c.args in
    let k = c.in_ok-p.ensures in
    let w = block_answered z.file.now z.marks.now z.work.now k.verdict k.passed.program z.low in
    let o = c.in_ok-check_own.ensures in
    let b = c.first_blocked in
    (own_block (program_of c.in_ok-p.p) _ z.low b.result c.sizes_of.ensures (sym o.0) b.ensures ∙ w.0, o.1 ∙ w.1)
