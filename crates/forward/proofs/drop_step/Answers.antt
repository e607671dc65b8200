use Rattle.forward.proofs.EditedMarks.{dropped_well_formed, keeps}
use Rattle.program.specs.WellFormed.{WellFormed}
use Rattle.reach.specs.Ranged.{Sized}
use Rattle.forward.proofs.ChangedMarks.{own_sized}
use Rattle.edit.proofs.Theorems.{drop_ready}
use Rattle.program.specs.Decoded.{program_of}
use Rattle.forward.proofs.drop_step.Goals as goal

pub without_step-dropped-requires : goal.without_step-dropped-requires
without_step-dropped-requires c =
    drop_ready c.args.s (program_of c.args.p) c.requires.well_formed.0 c.requires.well_formed.1

-- the program before the edit is well-formed as well as the one after it: which of the two is pruned by is for `returns` to tell
pub prune_marks-requires : goal.prune_marks-requires
prune_marks-requires c =
    let p = program_of c.args.p in
    let before : WellFormed p × Sized c.args.z p = (c.requires.well_formed.0, own_sized p c.requires.well_formed.2 c.requires.well_formed.0) in
    let after = dropped_well_formed c.args.s p _ c.requires.well_formed.0 c.requires.well_formed.2 c.requires.well_formed.1 c.without_step-dropped.ensures in
    record { well_formed = search (before, after); marks_len = c.requires.marks_len }

pub returns : goal.returns
returns c =
    keeps c.args.s (program_of c.args.p) _ c.requires.well_formed.0 c.requires.well_formed.2 c.requires.well_formed.1 c.without_step-dropped.ensures c.prune_marks.ensures
