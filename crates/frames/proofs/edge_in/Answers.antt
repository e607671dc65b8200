use Rattle.frames.proofs.edge_in.Goals as goal

pub returns : goal.returns
returns c = cc
