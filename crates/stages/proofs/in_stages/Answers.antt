-- `stages::in_stages` meets its contract.
use Rattle.forward.proofs.ChangedMarks.{own_sized}
use Rattle.stages.proofs.ExchangeStages.{sizes_alike, exchanged_after}
use Rattle.exchange.specs.Decoded.{exchange_of}
use Rattle.program.specs.Decoded.{program_of}
use borrow.Author.Rules.{rules}
use Rattle.stages.proofs.in_stages.Goals as goal

pub slice_bounds-own-end : goal.slice_bounds-own-end
slice_bounds-own-end g c =
    let d = own_sized (program_of c.args.p) c.requires.exchanges.before c.requires.exchanges.well_formed in
    let most = d.admitted.product in
    search (rules, most)

pub resize-requires : goal.resize-requires
resize-requires g c =
    let x = exchange_of c.args.x in
    let p = program_of c.args.p in
    let usable = (exchanged_after x p c.requires.exchanges).usable in
    let alike = sizes_alike x p c.requires.exchanges in
    search (rules, usable, alike)
