-- `successors::follow_entry` meets its contract.
use Rattle.marking.proofs.StepsChosen.{mark_then}
use Rattle.successors.proofs.follow_entry.Goals as goal

pub returns : goal.returns
returns c =
    let m = c.mark-lowest.ensures in
    let e = c.follow_summaries.ensures in
    (mark_then c.entry_of-entry.ensures.0 m.0 e.0, λ h. e.1 (m.1 h))
