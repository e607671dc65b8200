-- `additions::add_step_inside_out` meets its contract.
use Rattle.additions.proofs.MarksGained.{grown_flags}
use Rattle.forward.proofs.ChangedMarks.{own_sized, edited_sizes}
use Rattle.forward.specs.Parts.{Repaired}
use Rattle.edit.proofs.Theorems.{applied_well_formed}
use Rattle.edit.specs.Editing.{edited_program}
use Rattle.edit.specs.declared.Edit.TheVariants.{Add}
use Rattle.program.specs.Decoded.{program_of}
use Rattle.reach.proofs.ShapeKept.{marks-length}
use lib.ListN.{length}
use mathlib.Core.Path.{ap, ◌∙◌}
use borrow.Author.Rules.{rules}
use Rattle.additions.proofs.add_step_inside_out.Goals as goal

-- which of the two buffers is copied is for `returns` to tell
pub beside-requires-clause-sized : goal.beside-requires-clause-sized
beside-requires-clause-sized c =
    let d = own_sized _ c.requires.well_formed.2 c.requires.well_formed.0 in
    let m = ap length c.requires.marks_value.0 ∙ marks-length c.args.z d.usable (program_of c.args.p) in
    (d.usable, d.admitted, search (rules, m), search (rules, m))

pub returns : goal.returns
returns c =
    let p = program_of c.args.p in
    let e = Add c.args.s in
    let w = c.requires.well_formed in
    let d = own_sized p w.2 w.0 in
    let d' = own_sized _ (edited_sizes e p w.2) (applied_well_formed e p w.0 w.1) in
    let p' = edited_program e p in
    let r : Repaired c.args.z p' (program_of c.beside.result.program) c.beside.new.marks c.beside.new.work =
    search rules in
    (r, grown_flags d.usable p p' d.ranged d'.ranged c.requires.marks_value.0 r c.beside.ensures.told)
