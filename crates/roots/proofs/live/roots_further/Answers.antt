-- `roots::live::roots_further` meets its contract.
use Rattle.roots.proofs.live.roots_further.Goals as goal

pub returns : goal.returns
returns c = (c.roots_by_edges.ensures, rw (c.count_set-before.ensures, c.count_set-after.ensures))
