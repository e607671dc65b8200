use Rattle.marking.proofs.StepsMark.{loop_start, loop_next, loop_idle}
use Rattle.marking.proofs.StatesTaken.{leaving_all, leaving_next, passed_states, found_state, state_marked, none_marked}
use native.Mathlib.Omega.{arith}
use Prim.Native.Nat.{◌+◌}
use Rattle.marking.proofs.mark_each.Goals as goal
use Rattle.marking.proofs.mark_each.Goals.{After-lowest_state-k, After-slice_known-in-loop-left-2-1}

pub loop-left-init : goal.loop-left-init
loop-left-init c =
    (loop_start _ c.args.states _ _ _, leaving_all c.args.set)

pub returns-then-states-s : goal.returns-then-states-s
returns-then-states-s c =
    let v = c.loop-left.invariant in
    loop_idle v.0 (passed_states v.1 c.lowest_state-k.ensures _ c.if-states-s.true)

pub loop-left-preserved : goal.loop-left-preserved
loop-left-preserved c =
    let m = c.mark-lowest in
    let v = c.loop-left.invariant in
    let low = c.lowest_state-k.ensures in
    let x = c.loop-left.s + c.lowest_state-k.result in
    let marked = state_marked c.args.set c.args.base x (found_state v.1 low c.loop-left-test.true) m.ensures.0 in (
      loop_next v.0 (omega arith) (omega (arith, c.if-states-s.false)) (passed_states v.1 low _ (omega arith))
          (omega arith) marked m.ensures.1 m.auto.marks m.auto.pending,
      leaving_next v.1 low,
    )

pub returns : goal.returns
returns c = loop_idle c.loop-left.invariant.0 (none_marked c.loop-left.invariant.1 c.loop-left-test.false _ _)
