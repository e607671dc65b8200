use Rattle.frames.proofs.kind_of.Goals as goal

pub returns : goal.returns
returns c = cc
