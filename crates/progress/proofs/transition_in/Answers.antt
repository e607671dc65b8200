use Rattle.progress.proofs.transition_in.Goals as goal

pub returns : goal.returns
returns c = cc
