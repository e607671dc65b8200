-- `stages::drop_copied_inside_out` meets its contract.
use Rattle.forward.proofs.ChangedMarks.{own_sized}
use Rattle.program.specs.Decoded.{program_of}
use Rattle.reach.proofs.ShapeKept.{marks-length}
use lib.ListN.{length}
use mathlib.Core.Path.{sym, ap, ◌∙◌}
use Rattle.stages.proofs.drop_copied_inside_out.Goals as goal

pub copy_from_slice-requires : goal.copy_from_slice-requires
copy_from_slice-requires c =
    let w = c.requires.well_formed in
    let own = c.requires.marks_value in
    own.1 ∙ sym (ap length own.0 ∙ marks-length c.args.z (own_sized _ w.1 w.0).usable (program_of c.args.p))
