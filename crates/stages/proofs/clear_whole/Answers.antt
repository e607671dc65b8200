-- `stages::clear_whole` meets its contract.
use Rattle.stages.proofs.ExchangeStages.{zero_throughout}
use lib.ListN.{length}
use Rattle.stages.proofs.clear_whole.Goals as goal

pub returns : goal.returns
returns c = zero_throughout (length c.args.work.now) c.clear.ensures
