use Rattle.ranges.proofs.transition_fits.Goals as goal

pub returns : goal.returns
returns c = cc
