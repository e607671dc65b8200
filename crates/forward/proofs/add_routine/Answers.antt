-- `forward::add_routine` meets its contract. A call that follows the edges of another routine is refused for what it
-- asks and cannot have.
use Rattle.forward.proofs.ExchangedMarks.{routine_small, exchanged_fits, exchanged_closed, exchanged_own}
use Rattle.program.specs.Decoded.{program_of}
use Rattle.reach.proofs.MarksCopied.{cleared_is}
use Rattle.exchange.specs.Decoded.{exchange_of}
use borrow.Author.Rules.{rules}
use Rattle.forward.proofs.add_routine.Goals as goal

pub follow_routine-requires : goal.follow_routine-requires
follow_routine-requires c = let p = program_of c.args.p in
    let x = exchange_of c.args.x in
    let e = c.exchanged-changed.ensures in
    let fits = exchanged_fits x p c.requires.well_formed.0 c.requires.well_formed.1 c.requires.well_formed.2 c.requires.well_formed.3 _ e in
    let small = routine_small x p c.requires.well_formed.0 c.requires.well_formed.1 c.requires.well_formed.2 c.requires.well_formed.3 in
    let closed = exchanged_closed x p c.requires.well_formed.0 c.requires.well_formed.1 c.requires.well_formed.2 c.requires.well_formed.3 _ e c.requires.marks_value.0 in
    search (rules, fits, small, closed)

pub returns : goal.returns
returns c = let e = c.exchanged-changed.ensures in
    let idle = cleared_is c.args.z c.clear.ensures c.requires.marks_value.1 in
    let own = exchanged_own (exchange_of c.args.x) (program_of c.args.p) c.requires.well_formed.0 c.requires.well_formed.1 c.requires.well_formed.2 c.requires.well_formed.3 _ e c.requires.marks_value.0 in
    search (rules, own, idle)
