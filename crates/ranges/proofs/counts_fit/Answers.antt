use Rattle.ranges.proofs.counts_fit.Goals as goal

pub returns : goal.returns
returns c = cc
