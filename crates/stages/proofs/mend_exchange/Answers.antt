-- `stages::mend_exchange` meets its contract.
use Rattle.forward.proofs.ChangedMarks.{own_sized}
use Rattle.forward.proofs.ExchangedMarks.{routine_dropped}
use Rattle.forward.specs.Parts.{Repaired}
use Rattle.inside_out.proofs.InsideOutMarks.{exchanged_flags, told, none_told}
use Rattle.stages.proofs.ExchangeStages.{left_after, exchanged_after, left_resized, cleared}
use Rattle.callgraph.specs.Components.{Reanalyzed, Gained}
use Rattle.gained.specs.Parts.{FlagsOf}
use Rattle.exchange.specs.Decoded.{exchange_of}
use Rattle.exchange.specs.Changing.{emptied, exchanged_program}
use Rattle.program.specs.Chosen.{numbers}
use Rattle.program.specs.Decoded.{program_of}
use Rattle.reach.specs.Ranged.{Sized}
use Rattle.reach.proofs.ShapeKept.{marks-length}
use lib.ListN.{length}
use mathlib.Core.Path.{◌≡◌, ap, ◌∙◌}
use borrow.Author.Rules.{rules}
use Rattle.stages.proofs.mend_exchange.Goals as goal
use Rattle.stages.proofs.mend_exchange.Goals.{Start}

before-sized : (s : Start) → Sized s.args.z (program_of s.args.p)
before-sized s = own_sized _ s.requires.exchanges.before s.requires.exchanges.well_formed

long : (s : Start) → length s.args.marks.now ≡ numbers s.args.z
long s = ap length s.requires.buffers.own ∙ marks-length s.args.z (before-sized s).usable (program_of s.args.p)

pub in_stages-requires-clause-buffers : goal.in_stages-requires-clause-buffers
in_stages-requires-clause-buffers c =
    let b = c.requires.buffers in
    (long (goal.at.in_stages-requires-clause-buffers c).Start, b.room, b.before, b.after)

pub in_stages-requires-clause-addable : goal.in_stages-requires-clause-addable
in_stages-requires-clause-addable c =
    let x = exchange_of c.args.x in
    let p = program_of c.args.p in
    let e = c.requires.exchanges in
    λ d l m w m' w' s v dropped lent room resized room-after. (
      (e.well_formed, e.fits, left_after x p e, exchanged_after x p e),
      (left_resized x p e dropped.2.0 resized, room-after),
    )

pub in_stages-requires-else-inward-clause-buffers : goal.in_stages-requires-else-inward-clause-buffers
in_stages-requires-else-inward-clause-buffers c =
    let b = c.requires.buffers in
    (long (goal.at.in_stages-requires-else-inward-clause-buffers c).Start, b.room, b.before, b.after)

pub in_stages-requires-else-inward-clause-droppable : goal.in_stages-requires-else-inward-clause-droppable
in_stages-requires-else-inward-clause-droppable c =
    let e = c.requires.exchanges in
    let n = long (goal.at.in_stages-requires-else-inward-clause-droppable c).Start in
    λ l m w lent room space.
    ((e.well_formed, e.before), (ap length lent ∙ n, room, space))

pub in_stages-requires-else-inward-clause-addable : goal.in_stages-requires-else-inward-clause-addable
in_stages-requires-else-inward-clause-addable c =
    let x = exchange_of c.args.x in
    let p = program_of c.args.p in
    let e = c.requires.exchanges in
    let f = c.args.x.routine in
    λ d l m w m' w' s v dropped lent room resized room-after.
    let own = routine_dropped f p e.well_formed e.before (lent ∙ c.requires.buffers.own) dropped.2 in (
      (e.well_formed, e.fits, left_after x p e, exchanged_after x p e),
      (left_resized x p e own resized, room-after),
    )

pub returns-then-inward : goal.returns-then-inward
returns-then-inward c =
    let x = exchange_of c.args.x in
    let p = program_of c.args.p in
    let p' = exchanged_program x p in
    let e = c.in_stages.ensures in
    let r : Repaired c.args.y p' (program_of c.in_stages.result.1.program) c.in_stages.new.second e.staged.8.now =
    search rules in
    let dropped : FlagsOf (Reanalyzed p (emptied x.routine p) x.routine) c.in_stages.result.0.flags = search rules in
    let added : FlagsOf (Gained (emptied x.routine p) p') c.in_stages.result.1.routines.flags = search rules in
    (cleared r e.clear, told _ c.if-inward.true (exchanged_flags x p dropped added c.join-routines.ensures))

pub returns-else-inward : goal.returns-else-inward
returns-else-inward c =
    let p' = exchanged_program (exchange_of c.args.x) (program_of c.args.p) in
    let s = c.in_stages-else-inward in
    let r : Repaired c.args.y p' (program_of s.result.1) s.new.second s.ensures.staged.8.now = search rules in
    (cleared r s.ensures.clear, none_told _ c.if-inward.false)
