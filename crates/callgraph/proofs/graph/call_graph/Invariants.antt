-- `callgraph::graph::call_graph` meets its contract. The loop's invariant: every flag that is set is a lead, and when
-- a pass has set no more, the flags are closed. The measure: the flags that are not set.
use Rattle.program.specs.Program.{Program}
use Rattle.callgraph.specs.Parts.{leads_size}
use Rattle.callgraph.proofs.FlagsClosed.{Growing, left}
use Rattle.callgraph.proofs.CallsByKey.{KeysOf}
use Rattle.callgraph.proofs.LeadsFlagged.{LeadAt, LeadsRules}
use mathlib.Core.Path.{◌≡◌}
use lib.ListN.{length}
use Rattle.callgraph.proofs.graph.call_graph.Given as goal

abbrev pub invariant-loop-more : goal.invariant-loop-more
invariant-loop-more l =
    let count = length l.keys in
    (length l.leads ≡ leads_size)
    × ((p : Program) → KeysOf p l.keys count
    → Growing leads_size (LeadAt p) (LeadsRules l.keys count) l.initial.leads l.leads l.more)

abbrev pub decreases-loop-more : goal.decreases-loop-more
decreases-loop-more l = left leads_size l.leads l.more
