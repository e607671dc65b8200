use Rattle.callgraph.proofs.FlagsClosed.{turning_turn, turning_end}
use native.Mathlib.Omega.{arith}
use Rattle.roots.proofs.live.roots_by_call.Goals as goal

pub loop-r-preserved : goal.loop-r-preserved
loop-r-preserved c =
    turning_turn c.loop-r.invariant (omega arith) c.roots_by_root.ensures c.roots_by_root.auto.live

pub returns : goal.returns
returns c = turning_end c.loop-r.invariant (omega arith)
