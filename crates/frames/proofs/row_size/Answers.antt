use Rattle.base.proofs.TestsOnTheWay.{tests}
use Rattle.frames.proofs.row_size.Goals as goal

pub returns-then-states-gt8 : goal.returns-then-states-gt8
returns-then-states-gt8 c = search tests

pub returns : goal.returns
returns c = search tests
