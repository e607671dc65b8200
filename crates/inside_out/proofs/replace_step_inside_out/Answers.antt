-- `inside_out::replace_step_inside_out` meets its contract.
use Rattle.forward.proofs.EditedMarks.{between_well_formed, between_sizes, between_applies, replaced}
use Rattle.inside_out.proofs.InsideOutMarks.{replaced_flags}
use Rattle.reach.proofs.ShapeKept.{none_length}
use Rattle.forward.proofs.ChangedMarks.{own_sized}
use Rattle.edit.proofs.Theorems.{drop_applies}
use Rattle.program.specs.Decoded.{program_of}
use lib.ListN.{length}
use mathlib.Core.Path.{ap, ◌∙◌}
use Rattle.inside_out.proofs.replace_step_inside_out.Goals as goal

pub drop_step_inside_out-dropped-requires : goal.drop_step_inside_out-dropped-requires
drop_step_inside_out-dropped-requires c =
    record { well_formed = (c.requires.well_formed.0, drop_applies c.args.s c.args.l (program_of c.args.p) c.requires.well_formed.1, c.requires.well_formed.2); marks_value = c.requires.marks_value }

pub add_step_inside_out-added-requires : goal.add_step_inside_out-added-requires
add_step_inside_out-added-requires c =
    let p = program_of c.args.p in
    let x = c.drop_step_inside_out-dropped.ensures.0 in
    let a = between_applies c.args.s c.args.l p _ p c.requires.well_formed.0 c.requires.well_formed.1 x in record {
      well_formed = (
        between_well_formed c.args.s c.args.l p _ p c.requires.well_formed.0 c.requires.well_formed.1 x,
        rw c.relabelled-new.ensures a,
        between_sizes c.args.s c.args.l p _ p c.requires.well_formed.0 c.requires.well_formed.1 x c.requires.well_formed.2,
      );
      marks_value = (x.own, ap length x.clear ∙ none_length _ (own_sized _ c.requires.well_formed.2 c.requires.well_formed.0).usable);
    }

pub returns : goal.returns
returns c =
    let p = program_of c.args.p in
    let x = c.drop_step_inside_out-dropped.ensures in
    let y = rw c.relabelled-new.ensures at c.add_step_inside_out-added.ensures in
    (replaced c.args.s c.args.l p _ _ c.requires.well_formed.0 c.requires.well_formed.1 x.0 y.0, replaced_flags c.args.s c.args.l p _ x.0.is_wanted x.1 y.1 c.join-routines.ensures)
