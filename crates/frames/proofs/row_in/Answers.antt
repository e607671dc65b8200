use Rattle.base.proofs.TestsOnTheWay.{tests}
use Rattle.frames.proofs.row_in.Goals as goal

pub returns-then-states-gt8 : goal.returns-then-states-gt8
returns-then-states-gt8 c = rw c.wide_row.ensures (let h = c.if-states-gt8.true in search tests)

pub returns : goal.returns
returns c = rw c.narrow_row.ensures (let h = c.if-states-gt8.false in search tests)
