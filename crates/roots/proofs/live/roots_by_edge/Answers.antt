-- `roots::live::roots_by_edge` meets its contract.
use mathlib.Core.Path.{sym, ◌∙◌}
use Rattle.roots.proofs.RootsOccur.{call_roots, no_call_roots}
use Rattle.roots.proofs.live.roots_by_edge.Goals as goal

pub roots_by_call-requires : goal.roots_by_call-requires
roots_by_call-requires c = sym c.is_call.ensures ∙ c.if-is_call.true

pub returns-then-is_call : goal.returns-then-is_call
returns-then-is_call c =
    call_roots _ c.edge-e.ensures _ _ _ (sym c.is_call.ensures ∙ c.if-is_call.true) c.roots_by_call.ensures

pub returns-else-is_call : goal.returns-else-is_call
returns-else-is_call c = no_call_roots _ c.edge-e.ensures _ _ _ (sym c.is_call.ensures ∙ c.if-is_call.false)
