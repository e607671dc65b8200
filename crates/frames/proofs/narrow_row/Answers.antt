use Rattle.frames.proofs.narrow_row.Goals as goal

pub returns : goal.returns
returns c = cc
