use Rattle.std.proofs.Common.{◌∙◌}
use Rattle.std.proofs.lemmas.Result.{err_from_is_err_and}
use Rattle.rewrite.proofs.RoomAnswers.{room_answered}
use Rattle.rewrite.proofs.exchange_room.Goals as goal

pub returns-in_err-p : goal.returns-in_err-p
returns-in_err-p c =
    let e = err_from_is_err_and c.from_residual.result c.from_residual.ensures.1 in
    rw (e.1, e.2) (room_answered c.args.file.now c.args.text.now c.in_err-p.ensures)

pub returns : goal.returns
returns c = c.room_wanted.ensures ∙ room_answered c.args.file.now c.args.text.now c.in_ok-p.ensures
