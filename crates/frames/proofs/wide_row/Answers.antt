use Rattle.frames.proofs.wide_row.Goals as goal

pub returns : goal.returns
returns c = cc
