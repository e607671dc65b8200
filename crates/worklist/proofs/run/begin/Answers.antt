-- `worklist::run::begin` meets its contract.
use Rattle.reach.proofs.MarksCopied.{cleared_is}
use Rattle.worklist.proofs.run.begin.Goals as goal

pub returns : goal.returns
returns c =
    rw (cleared_is c.args.z c.clear.ensures c.requires) at c.open_initial.ensures
