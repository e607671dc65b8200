use Rattle.callgraph.proofs.ComponentsFromFlags.{rank_none, rank_next}
use native.Mathlib.Omega.{arith}
use Rattle.callgraph.proofs.graph.rank.Goals as goal

pub loop-g-init : goal.loop-g-init
loop-g-init c = (rank_none _ _, omega arith)

pub loop-g-preserved : goal.loop-g-preserved
loop-g-preserved c =
    let p = c.loop-g.invariant in
    (rank_next _ _ _ p.0 c.is_counted-n.ensures.0, omega (arith, p.1))
