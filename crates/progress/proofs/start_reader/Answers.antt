use Rattle.progress.proofs.start_reader.Goals as goal

pub returns : goal.returns
returns c = cc
