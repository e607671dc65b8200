use native.Mathlib.Omega.{arith}
use mathlib.Core.Path.{◌∙◌}
use Rattle.input.proofs.LineEnds.{within_start, within_more, within_stop, within_end}
use Rattle.input.proofs.line_size.Goals as goal

pub loop-i-init : goal.loop-i-init
loop-i-init c = within_start _ _

pub returns-then-input-i-eq10 : goal.returns-then-input-i-eq10
returns-then-input-i-eq10 c = within_stop c.loop-i.invariant (omega arith) c.if-input-i-eq10.true

pub loop-i-preserved : goal.loop-i-preserved
loop-i-preserved c = within_more c.loop-i.invariant (omega arith) c.if-input-i-eq10.false

pub returns : goal.returns
returns c = c.saturating_sub.ensures ∙ within_end c.loop-i.invariant (omega arith) (λ h. omega arith)
