use Rattle.forward.proofs.EditedMarks.{dropped, between_well_formed, between_sizes, between_applies, replaced}
use Rattle.forward.proofs.ChangedMarks.{own_sized}
use Rattle.edit.proofs.Theorems.{drop_applies}
use Rattle.reach.proofs.ShapeKept.{marks-length, none_length}
use Rattle.program.specs.Decoded.{program_of}
use lib.ListN.{length}
use mathlib.Core.Path.{ap, ◌∙◌}
use Rattle.forward.proofs.repair_edit.Goals as goal

pub add_step-requires : goal.add_step-requires
add_step-requires c =
    let e = c.in-Add.is in
    record { well_formed = (c.requires.well_formed.0, rw e at c.requires.well_formed.1, c.requires.well_formed.2); marks_value = (rw e at c.requires.lent_forward.0, c.requires.lent_forward.1) }

pub drop_step-requires : goal.drop_step-requires
drop_step-requires c =
    let e = c.in-Drop.is in
    record { well_formed = (c.requires.well_formed.0, rw e at c.requires.well_formed.1, c.requires.well_formed.2); marks_len = (rw e at c.requires.lent_forward.0, c.requires.lent_forward.1) }

pub drop_step-dropped-requires : goal.drop_step-dropped-requires
drop_step-dropped-requires c =
    let e = c.in-Replace.is in
    let a = rw e at c.requires.well_formed.1 in
    let o = rw e at c.requires.lent_forward.0 in
    record { well_formed = (c.requires.well_formed.0, drop_applies _ _ (program_of c.args.p) a, c.requires.well_formed.2); marks_len = (ap length o ∙ marks-length _ (own_sized _ c.requires.well_formed.2 c.requires.well_formed.0).usable _, c.requires.lent_forward.1) }

pub add_step-requires-in-Replace : goal.add_step-requires-in-Replace
add_step-requires-in-Replace c =
    let e = c.in-Replace.is in
    let p = program_of c.args.p in
    let a = rw e at c.requires.well_formed.1 in
    let x = dropped _ p _ c.requires.well_formed.0 c.requires.well_formed.2 (drop_applies _ _ p a) (rw e at c.requires.lent_forward.0) c.drop_step-dropped.ensures in
    let before = c.requires.well_formed.0 in
    let after = between_well_formed _ _ p _ p before a x in
    record { well_formed = (search (before, after), rw c.relabelled.ensures (between_applies _ _ p _ p before a x), between_sizes _ _ p _ p before a x c.requires.well_formed.2); marks_value = (x.own, ap length x.clear ∙ none_length _ (own_sized _ c.requires.well_formed.2 c.requires.well_formed.0).usable) }

pub returns-in-Add : goal.returns-in-Add
returns-in-Add c = rw c.in-Add.is c.add_step.ensures

pub returns-in-Drop : goal.returns-in-Drop
returns-in-Drop c =
    let e = c.in-Drop.is in
    let k = c.drop_step.ensures in
    rw e (k, λ o. dropped _ (program_of c.args.p) _ c.requires.well_formed.0 c.requires.well_formed.2 (rw e at c.requires.well_formed.1) o k)

pub returns-in-Replace : goal.returns-in-Replace
returns-in-Replace c =
    let e = c.in-Replace.is in
    let p = program_of c.args.p in
    let a = rw e at c.requires.well_formed.1 in
    let x = dropped _ p _ c.requires.well_formed.0 c.requires.well_formed.2 (drop_applies _ _ p a) (rw e at c.requires.lent_forward.0) c.drop_step-dropped.ensures in
    let y = rw c.relabelled.ensures at c.add_step-in-Replace.ensures in
    rw e (replaced _ _ p _ _ c.requires.well_formed.0 a x y)
