-- `writer::write` meets its contract: the checks decide, and then the program is written.
use Rattle.std.proofs.Common.{◌∙◌, ap}
use Rattle.std.proofs.lemmas.Result.{err_from_is_err_and}
use Rattle.writer.specs.WriteAnswers.{Written}
use Rattle.writer.proofs.WriteAnswers.{refused, accepted, has_room}
use Rattle.writer.proofs.write.Goals as goal

pub returns-in_err-program : goal.returns-in_err-program
returns-in_err-program c =
    let p = err_from_is_err_and c.from_residual.result c.from_residual.ensures.1 in
    rw (p.1, p.2) (refused c.args.file.now c.args.output.now _ _ c.in_err-program.ensures.verdict)

pub write_program-requires-clause-room : goal.write_program-requires-clause-room
write_program-requires-clause-room c = has_room c.args.file.now c.args.output.now c.in_ok-program.program c.in_ok-program.ensures.passed

pub returns : goal.returns
returns c =
    let k = c.in_ok-program.ensures in
    let w = accepted c.args.file.now c.args.output.now c.in_ok-program.program k.passed k.verdict in
    let p = c.write_program.ensures in
    (ap Written p.0 ∙ w.0, p.1 ∙ w.1)
