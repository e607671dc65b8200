-- `prune::prune_program` meets its contract.
use Rattle.reach.proofs.MarksCopied.{cleared_is}
use Rattle.prune.proofs.KeptExact.{copied_shows}
use Rattle.prune.proofs.prune_program.Goals as goal

pub returns : goal.returns
returns c =
    let kept = c.keep.ensures in
    (copied_shows _ c.requires.well_formed.1.usable kept c.args.marks.now c.copy-copied.ensures.1 c.requires.marks_len.0, cleared_is c.args.z c.clear.ensures kept.len)
