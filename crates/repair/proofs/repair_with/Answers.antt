-- `repair::repair_with` meets its contract.
use Rattle.std.proofs.lemmas.Result.{err_from_is_err_and}
use Rattle.repair.proofs.repair_with.Goals as goal

pub returns-in_err-repair : goal.returns-in_err-repair
returns-in_err-repair c =
    let e = err_from_is_err_and c.from_residual.result c.from_residual.ensures.1 in
    rw (e.1, e.2) c.in_err-repair.ensures.0
