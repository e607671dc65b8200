-- `kept::may_go` meets its contract.
use Rattle.kept.proofs.may_go.Goals as goal

pub returns : goal.returns
returns c = rw (← c.next_after.ensures) c.has_bit.ensures
