-- `program::chosen::sizes_of` meets its contract.
use Rattle.program.proofs.chosen.sizes_of.Goals as goal

pub returns : goal.returns
returns c = rw c.largest_of-nodes.ensures
