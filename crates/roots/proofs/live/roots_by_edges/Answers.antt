use Rattle.callgraph.proofs.FlagsClosed.{turning_turn, turning_end}
use native.Mathlib.Omega.{arith}
use Rattle.roots.proofs.live.roots_by_edges.Goals as goal

pub loop-key-preserved : goal.loop-key-preserved
loop-key-preserved c = turning_turn c.loop-key.invariant (omega arith) c.roots_by_edge.ensures c.roots_by_edge.auto.live

pub returns : goal.returns
returns c = turning_end c.loop-key.invariant (omega arith)
