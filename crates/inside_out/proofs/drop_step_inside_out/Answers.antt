-- `inside_out::drop_step_inside_out` meets its contract.
use Rattle.inside_out.proofs.InsideOutMarks.{none_dropped, drop_of, dropped_inside_out, step_drop}
use Rattle.forward.proofs.EditedMarks.{is_dropped}
use Rattle.forward.proofs.ChangedMarks.{own_sized}
use Rattle.edit.proofs.Theorems.{drop_ready}
use Rattle.program.specs.Decoded.{program_of}
use Rattle.inside_out.proofs.drop_step_inside_out.Goals as goal

pub without_step-program-requires : goal.without_step-program-requires
without_step-program-requires c =
    drop_ready c.args.s (program_of c.args.p) c.requires.well_formed.0 c.requires.well_formed.1

-- the marks are those from before a drop of nothing as well as from before this drop: whose they become is for `returns` to tell
pub drop_inside_out-routines-requires : goal.drop_inside_out-routines-requires
drop_inside_out-routines-requires c =
    let p = program_of c.args.p in
    let before = none_dropped p c.requires.well_formed.0 (own_sized p c.requires.well_formed.2 c.requires.well_formed.0) c.args.s.routine in
    let e = is_dropped c.args.s p _ c.without_step-program.ensures in
    let after = drop_of p _ _ c.args.s.routine e (step_drop c.args.s p c.requires.well_formed.0 c.requires.well_formed.1 c.requires.well_formed.2) in
    record { work_len = c.requires.marks_value.1; drop_of = (p, search (before, after), c.requires.marks_value.0) }

pub returns : goal.returns
returns c =
    let p = program_of c.args.p in
    let e = is_dropped c.args.s p _ c.without_step-program.ensures in
    let before = none_dropped p c.requires.well_formed.0 (own_sized p c.requires.well_formed.2 c.requires.well_formed.0) c.args.s.routine in
    let after = drop_of p _ _ c.args.s.routine e (step_drop c.args.s p c.requires.well_formed.0 c.requires.well_formed.1 c.requires.well_formed.2) in
    dropped_inside_out p _ _ c.args.s.routine e (c.drop_inside_out-routines.ensures p (search (before, after)) c.requires.marks_value.0)
