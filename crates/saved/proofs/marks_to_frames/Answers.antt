-- `saved::marks_to_frames` meets its contract.
use mathlib.Core.Path.{◌∙◌}
use Rattle.std.proofs.lemmas.Result.{err_from_is_err_and}
use Rattle.program.specs.Chosen.{sizes_of}
use Rattle.program.specs.Decoded.{program_of}
use Rattle.reach.proofs.MarksCopied.{cleared_is}
use Rattle.saved.specs.Answers.{over}
use Rattle.saved.proofs.MovesAnswered.{early_refused, move_answered}
use Rattle.saved.proofs.marks_to_frames.Goals as goal

pub returns-in_err-program : goal.returns-in_err-program
returns-in_err-program c =
    let z = c.args in
    let p = err_from_is_err_and c.from_residual.result c.from_residual.ensures.1 in
    rw (p.1, p.2) (early_refused over z.file.now z.marks.now z.output.now z.work.now _ _ c.in_err-program.ensures.verdict)

pub returns : goal.returns
returns c =
    let z = c.args in
    let p = c.in_ok-program.program in
    let k = c.in_ok-program.ensures in
    let w = move_answered over z.file.now z.marks.now z.output.now z.work.now p k.passed k.verdict in
    let m = c.move_over.ensures in
    (m.0.answer ∙ w.0, m.0.output ∙ w.1, cleared_is (sizes_of (program_of p)) m.1 k.passed.work_length ∙ w.2)
