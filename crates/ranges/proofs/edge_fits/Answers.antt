use Rattle.ranges.proofs.edge_fits.Goals as goal

pub returns : goal.returns
returns c = cc
