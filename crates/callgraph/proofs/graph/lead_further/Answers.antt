-- `callgraph::graph::lead_further` meets its contract.
use Rattle.callgraph.proofs.graph.lead_further.Goals as goal

pub returns : goal.returns
returns c = (c.lead_by_edges.ensures, rw (c.count_set-before.ensures, c.count_set-after.ensures))
