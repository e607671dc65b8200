use mathlib.Core.Path.{refl}
use native.Mathlib.Omega.{arith}
use Rattle.marking.proofs.StepsMark.{loop_start, loop_turn, loop_end}
use Rattle.marking.proofs.wake_roots.Goals as goal

pub loop-r-init : goal.loop-r-init
loop-r-init c = loop_start _ c.args.states _ _ _

pub loop-r-preserved : goal.loop-r-preserved
loop-r-preserved c =
    let w = c.wake-lowest in
    loop_turn c.loop-r.invariant (omega arith) w.ensures.0 w.ensures.1 refl w.auto.pending

pub returns : goal.returns
returns c = loop_end c.loop-r.invariant (omega arith)
