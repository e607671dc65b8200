use Rattle.std.proofs.lemmas.Result.{err_from_is_err_and}
use Rattle.program.specs.Decoded.{program_of}
use Rattle.rewrite.proofs.RoomAnswers.{room_read, room_refused}
use Rattle.rewrite.proofs.room_wanted.Goals as goal

pub returns-in_err-exchange : goal.returns-in_err-exchange
returns-in_err-exchange c =
    let e = err_from_is_err_and c.from_residual.result c.from_residual.ensures.1 in
    rw (e.1, e.2) (room_refused (program_of c.args.p) c.args.text.now c.in_err-exchange.ensures)

pub returns : goal.returns
returns c =
    let h = room_read (program_of c.args.p) c.args.text.now c.in_ok-exchange.ensures in
    rw (c.lengths_of-lengths.ensures, c.sizes_of.ensures, c.sizes_after-after.ensures) h
