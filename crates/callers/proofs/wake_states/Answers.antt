use Rattle.marking.proofs.StepsMark.{loop_start, loop_turn, loop_end}
use Rattle.marking.proofs.StepsChosen.{step_taken, step_left}
use mathlib.Core.Path.{refl, sym, ◌∙◌}
use native.Mathlib.Omega.{arith}
use Rattle.callers.proofs.wake_states.Goals.{then-has_bit, else-has_bit}
use Rattle.callers.proofs.wake_states.Goals as goal

pub loop-x-init : goal.loop-x-init
loop-x-init c = loop_start _ c.args.z.states _ _ _

pub loop-x-preserved : goal.loop-x-preserved
loop-x-preserved c =
    let e = rw c.next_after-roots.ensures at c.has_bit.ensures in
    elim c.if-has_bit.branch [
      | then-has_bit w ↦
          let k = w.wake_roots-lowest in
          rw (w.pending-is, w.lowest-is)
          (loop_turn c.loop-x.invariant (omega arith)
          (step_taken _ (sym e ∙ w.if-has_bit.true) (rw w.number_of-base.ensures.0 at k.ensures.0)) k.ensures.1 refl
          k.auto.pending)
      | else-has_bit w ↦
          rw (w.pending-is, w.lowest-is)
          (loop_turn c.loop-x.invariant (omega arith) (step_left _ (sym e ∙ w.if-has_bit.false)) (λ h. h) refl refl)
    ]

pub returns : goal.returns
returns c = loop_end c.loop-x.invariant (omega arith)
