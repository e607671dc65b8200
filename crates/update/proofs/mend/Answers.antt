-- `update::mend` meets its contract.
use Rattle.inside_out.proofs.InsideOutMarks.{told, none_told}
use Rattle.update.proofs.mend.Goals as goal

pub rework_edit-requires : goal.rework_edit-requires
rework_edit-requires c =
    record { well_formed = c.requires.well_formed; marks_value = (rw c.if-inward.true at c.requires.lent.0, c.requires.lent.1) }

pub returns-then-inward : goal.returns-then-inward
returns-then-inward c =
    let i = c.if-inward.true in
    let r = c.rework_edit.ensures in
    (rw i r.0, told _ i r.1)

pub repair_edit-program-requires : goal.repair_edit-program-requires
repair_edit-program-requires c =
    record { well_formed = c.requires.well_formed; lent_forward = (rw c.if-inward.false at c.requires.lent.0, c.requires.lent.1) }

pub returns : goal.returns
returns c =
    let i = c.if-inward.false in
    (rw i c.repair_edit-program.ensures, none_told _ i)
