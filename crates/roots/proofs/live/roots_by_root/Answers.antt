use Rattle.callgraph.proofs.FlagsClosed.{turning_turn, turning_end}
use native.Mathlib.Omega.{arith}
use Rattle.roots.proofs.live.roots_by_root.Goals as goal

pub loop-q-preserved : goal.loop-q-preserved
loop-q-preserved c =
    turning_turn c.loop-q.invariant (omega arith) c.roots_when_marked.ensures c.roots_when_marked.auto.live

pub returns : goal.returns
returns c = turning_end c.loop-q.invariant (omega arith)
