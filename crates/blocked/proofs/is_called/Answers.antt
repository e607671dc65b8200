use mathlib.Core.Path.{sym, ap, ◌∙◌}
use Rattle.base.proofs.SearchesAsk.{try_all, try_found, try_next, try_none}
use Rattle.blocked.specs.Parts.{calls_with, called_key}
use Rattle.blocked.proofs.is_called.Goals as goal

pub loop-key-init : goal.loop-key-init
loop-key-init c = try_all _ _

pub returns-then-calls_with : goal.returns-then-calls_with
unfolding called_key
returns-then-calls_with c =
    try_found c.loop-key.invariant c.loop-key-test.true
    (ap (calls_with _ _ _ _ _) (sym c.edge.ensures) ∙ sym c.calls_with.ensures ∙ c.if-calls_with.true)

pub loop-key-preserved : goal.loop-key-preserved
loop-key-preserved c =
    try_next c.loop-key.invariant c.loop-key-test.true
    (ap (calls_with _ _ _ _ _) (sym c.edge.ensures) ∙ sym c.calls_with.ensures ∙ c.if-calls_with.false)

pub returns : goal.returns
unfolding called_key
returns c = try_none c.loop-key.invariant c.loop-key-test.false
