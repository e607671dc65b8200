use Rattle.callgraph.proofs.FlagsClosed.{turning_turn, turning_end}
use native.Mathlib.Omega.{arith}
use Rattle.callgraph.proofs.graph.copy_row.Goals as goal

pub loop-h-preserved : goal.loop-h-preserved
loop-h-preserved c =
    let copied = rw (c.lead_place.ensures, c.lead_place-in-loop-h.ensures) at c.copy_when.ensures in
    turning_turn c.loop-h.invariant (omega arith) copied c.copy_when.auto.flags

pub returns : goal.returns
returns c = turning_end c.loop-h.invariant (omega arith)
