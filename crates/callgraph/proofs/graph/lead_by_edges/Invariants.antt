-- `callgraph::graph::lead_by_edges` meets its contract. The loop's invariant: what the edges from `i` on add gives the
-- whole.
use Rattle.program.specs.Decoded.{edge_of}
use Rattle.callgraph.specs.Parts.{leads_by_edge}
use Rattle.callgraph.proofs.FlagsClosed.{Turning}
use lib.ListN.{length, get_or}
use Rattle.callgraph.proofs.graph.lead_by_edges.Given as goal

abbrev pub invariant-loop-key : goal.invariant-loop-key
invariant-loop-key l = Turning (λ j. leads_by_edge (edge_of (get_or l.keys j 0))) (length l.keys) l.initial.leads l.key-index l.leads
