use Rattle.marking.proofs.StepsMark.{loop_start, loop_turn, loop_end, loop_idle}
use Rattle.marking.proofs.StatesTaken.{leaving_all, leaving_half, leaving_here, leaving_other, none_followed}
use Rattle.marking.proofs.StepsChosen.{step_taken, step_left}
use mathlib.Core.Path.{refl}
use native.Mathlib.Omega.{arith}
use Rattle.successors.proofs.follow_call.Goals.{then-left-eq1, else-left-eq1}
use Rattle.successors.proofs.follow_call.Goals as goal

pub loop-y-init : goal.loop-y-init
loop-y-init c =
    (loop_start _ c.args.z.states _ _ _, rw c.next_after-left.ensures (leaving_all _))

pub returns-then-left-eq0 : goal.returns-then-left-eq0
returns-then-left-eq0 c = loop_idle c.loop-y.invariant.0 (none_followed c.loop-y.invariant.1 c.if-left-eq0.true _ _)

pub loop-y-preserved : goal.loop-y-preserved
loop-y-preserved c =
    let l = c.loop-y.invariant.1 in
    elim c.if-left-eq1.branch [
      | then-left-eq1 w ↦
          let k = w.follow_entry-lowest in
          rw (w.marks-is, w.pending-is, w.lowest-is) (
            loop_turn c.loop-y.invariant.0 (omega arith) (step_taken _ (leaving_here l w.if-left-eq1.true) k.ensures.0)
                k.ensures.1 k.auto.marks k.auto.pending,
            leaving_half l,
          )
      | else-left-eq1 w ↦
          rw (w.marks-is, w.pending-is, w.lowest-is) (
            loop_turn c.loop-y.invariant.0 (omega arith) (step_left _ (leaving_other l w.if-left-eq1.false)) (λ h. h) refl refl,
            leaving_half l,
          )
    ]

pub returns : goal.returns
returns c = loop_end c.loop-y.invariant.0 (omega arith)
