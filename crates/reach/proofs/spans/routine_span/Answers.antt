-- `reach::spans::routine_span` meets its contract.
use mathlib.Core.Path.{◌∙◌}
use native.Mathlib.Nat.{add-zero, mul_comm}
use native.Mathlib.Omega.{arith}
use Rattle.reach.proofs.spans.routine_span.Goals as goal

pub returns : goal.returns
returns c = (c.with_digit.ensures.0 ∙ add-zero _ ∙ mul_comm _ _ ∙ rw c.node_span.ensures.0, omega arith)
