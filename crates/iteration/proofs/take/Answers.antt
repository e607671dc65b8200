-- `iteration::take` meets its contract.
use Rattle.iteration.proofs.TakingOfProcedure.{at_exit, elsewhere, past_lowest}
use native.Mathlib.Omega.{arith}
use Rattle.iteration.proofs.take.Goals as goal

pub wake_callers-requires : goal.wake_callers-requires
wake_callers-requires c =
    (c.requires.3, omega (arith, c.requires.1.routines, c.parts_by-c.ensures.in_range.routine))

pub returns-then-c-eq1 : goal.returns-then-c-eq1
returns-then-c-eq1 c =
    let a = c.args in
    let f = c.clear_at.ensures in
    let d = c.set_at.ensures in
    let e = c.wake_callers.ensures in record {
      taken = at_exit a.z a.keys.now a.index.now a.next.now a.marks.now a.pending.now a.known.now a.i c.parts_by-c.ensures f
          _ c.if-c-eq1.true (rw c.summary_of-place.ensures.0 at d) e.0;
      lowest = λ h. e.1 (rw f (past_lowest _ a.i h));
    }

pub follow_edges-requires : goal.follow_edges-requires
follow_edges-requires c =
    let r = c.parts_by-c.ensures.in_range in
    (c.requires.3, omega (arith, c.requires.1.routines, r.routine), omega (arith, c.requires.1.nodes, r.node), c.requires.1.states)

pub returns : goal.returns
returns c =
    let a = c.args in
    let f = c.clear_at.ensures in
    let e = c.follow_edges.ensures in record {
      taken = elsewhere a.z a.keys.now a.index.now a.next.now a.marks.now a.pending.now a.known.now a.i c.parts_by-c.ensures f
          c.if-c-eq1.false e.0;
      lowest = λ h. e.1 (rw f (past_lowest _ a.i h));
    }
