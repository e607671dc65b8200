-- `forward::drop_routine` meets its contract.
use Rattle.forward.proofs.ExchangedMarks.{emptied_fits}
use Rattle.program.specs.Decoded.{program_of}
use borrow.Author.Rules.{rules}
use Rattle.forward.proofs.drop_routine.Goals as goal

pub prune_marks-requires : goal.prune_marks-requires
prune_marks-requires c = let w = emptied_fits c.args.f (program_of c.args.p) c.requires.well_formed.0 c.requires.well_formed.1 c.without_routine.ensures in
    search (rules, w)

pub returns : goal.returns
returns c = let e = c.without_routine.ensures in search (rules, ← e)
