use Rattle.callgraph.proofs.FlagsClosed.{turning_turn, turning_end}
use native.Mathlib.Omega.{arith}
use Rattle.callgraph.proofs.graph.lead_by_edges.Goals as goal

pub loop-key-preserved : goal.loop-key-preserved
loop-key-preserved c =
    turning_turn c.loop-key.invariant (omega arith) c.lead_by_edge.ensures c.lead_by_edge.auto.leads

pub returns : goal.returns
returns c = turning_end c.loop-key.invariant (omega arith)
