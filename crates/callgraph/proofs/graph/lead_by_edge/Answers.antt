-- `callgraph::graph::lead_by_edge` meets its contract.
use mathlib.Core.Path.{sym, ◌∙◌}
use Rattle.callgraph.proofs.LeadsFlagged.{call_leads, no_call_leads}
use Rattle.callgraph.proofs.graph.lead_by_edge.Goals as goal

pub called_by-g-requires : goal.called_by-g-requires
called_by-g-requires c = sym c.is_call.ensures ∙ c.if-is_call.true

pub returns-then-is_call : goal.returns-then-is_call
returns-then-is_call c =
    call_leads c.edge-e.ensures _ (sym c.is_call.ensures ∙ c.if-is_call.true) c.called_by-g.ensures
    c.lead_place.ensures c.set_flag.ensures c.copy_row.ensures

pub returns-else-is_call : goal.returns-else-is_call
returns-else-is_call c = no_call_leads c.edge-e.ensures _ (sym c.is_call.ensures ∙ c.if-is_call.false)
