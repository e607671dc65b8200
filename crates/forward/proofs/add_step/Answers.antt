use Rattle.forward.proofs.EditedSteps.{add_from}
use Rattle.forward.proofs.EditedMarks.{added_well_formed, added_closed, added}
use Rattle.edit.proofs.Theorems.{add_ready}
use Rattle.program.specs.Decoded.{program_of}
use Rattle.reach.proofs.MarksCopied.{cleared_is}
use Rattle.forward.proofs.add_step.Goals as goal

pub with_step-added-requires : goal.with_step-added-requires
with_step-added-requires c =
    let r = add_ready c.args.s (program_of c.args.p) c.requires.well_formed.0 c.requires.well_formed.1 in
    record { bytes = r.0; p_len_bound = r.1 }

-- where a step leads to is in range as well as where it leads from: which of the two is taken up is for what is marked to tell
pub follow_added-requires : goal.follow_added-requires
follow_added-requires c =
    let p = program_of c.args.p in
    let e = c.with_step-added.ensures in
    let fits = added_well_formed c.args.s p _ c.requires.well_formed.0 c.requires.well_formed.2 c.requires.well_formed.1 e in
    let from = add_from c.args.s p c.requires.well_formed.0 c.requires.well_formed.2 c.requires.well_formed.1 in
    let source = from.1 in
    let target = from.2 in record { well_formed = (fits.0, fits.1, from.0, search (source, target)); closed_but = added_closed c.args.s p _ c.requires.well_formed.0 c.requires.well_formed.2 c.requires.well_formed.1 e c.requires.marks_value.0 }

pub returns : goal.returns
returns c =
    added c.args.s (program_of c.args.p) _ c.requires.well_formed.0 c.requires.well_formed.2 c.requires.well_formed.1 c.with_step-added.ensures c.requires.marks_value.0
    (c.follow_added.ensures, cleared_is c.args.z c.clear.ensures c.requires.marks_value.1)
