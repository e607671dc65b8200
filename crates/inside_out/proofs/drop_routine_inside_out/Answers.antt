-- `inside_out::drop_routine_inside_out` meets its contract.
use Rattle.inside_out.proofs.InsideOutMarks.{none_dropped, drop_of, dropped_inside_out, routine_drop}
use Rattle.forward.proofs.ChangedMarks.{own_sized}
use Rattle.reach.specs.Marks.{fresh_at}
use Rattle.program.specs.Decoded.{program_of}
use mathlib.Core.Path.{ap, ◌∙◌}
use Rattle.inside_out.proofs.drop_routine_inside_out.Goals as goal

-- the marks are those from before a drop of nothing as well as from before this drop: whose they become is for `returns` to tell
pub drop_inside_out-requires : goal.drop_inside_out-requires
drop_inside_out-requires c =
    let p = program_of c.args.p in
    let before = none_dropped p c.requires.well_formed.0 (own_sized p c.requires.well_formed.1 c.requires.well_formed.0) c.args.f in
    let after = drop_of p _ _ c.args.f c.without_routine-program.ensures (routine_drop c.args.f p c.requires.well_formed.0 c.requires.well_formed.1) in
    record { work_len = c.requires.marks_value.1; drop_of = (p, search (before, after), c.requires.marks_value.0) }

pub returns : goal.returns
returns c =
    let p = program_of c.args.p in
    let e = c.without_routine-program.ensures in
    let before = none_dropped p c.requires.well_formed.0 (own_sized p c.requires.well_formed.1 c.requires.well_formed.0) c.args.f in
    let after = drop_of p _ _ c.args.f e (routine_drop c.args.f p c.requires.well_formed.0 c.requires.well_formed.1) in
    let k = dropped_inside_out p _ _ c.args.f e (c.drop_inside_out.ensures p (search (before, after)) c.requires.marks_value.0) in
    (k.0.own ∙ ap (fresh_at _) k.0.is_wanted, k.0.clear, k.1)
