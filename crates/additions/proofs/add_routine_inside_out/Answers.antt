-- `additions::add_routine_inside_out` meets its contract.
use Rattle.additions.proofs.MarksGained.{grown_flags}
use Rattle.exchange.specs.Changing.{emptied, exchanged_program}
use Rattle.exchange.specs.Decoded.{exchange_of}
use Rattle.forward.specs.Parts.{Repaired}
use Rattle.program.specs.Decoded.{program_of}
use Rattle.reach.proofs.ShapeKept.{marks-length}
use lib.ListN.{length}
use mathlib.Core.Path.{ap, ◌∙◌}
use borrow.Author.Rules.{rules}
use Rattle.additions.proofs.add_routine_inside_out.Goals as goal

-- which of the two buffers is copied is for `returns` to tell
pub beside-requires-clause-sized : goal.beside-requires-clause-sized
beside-requires-clause-sized c =
    let d = c.requires.well_formed.2 in
    let p = emptied c.args.x.routine (program_of c.args.p) in
    let m = ap length c.requires.marks_value.0 ∙ marks-length c.args.z d.usable p in
    (d.usable, d.admitted, search (rules, m), search (rules, m))

pub returns : goal.returns
returns c =
    let p = program_of c.args.p in
    let w = c.requires.well_formed in
    let p' = exchanged_program (exchange_of c.args.x) p in
    let r : Repaired c.args.z p' (program_of c.beside.result.program) c.beside.new.marks c.beside.new.work =
    search rules in
    let o = c.requires.marks_value.0 in
    (r, grown_flags w.2.usable (emptied c.args.x.routine p) p' w.2.ranged w.3.ranged o r c.beside.ensures.told)
