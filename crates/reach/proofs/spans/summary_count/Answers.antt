-- `reach::spans::summary_count` meets its contract.
use mathlib.Core.Path.{◌∙◌}
use native.Mathlib.Nat.{add-zero}
use native.Mathlib.Omega.{arith}
use Rattle.reach.specs.Sizes.{summaries}
use Rattle.reach.proofs.spans.summary_count.Goals as goal

pub returns : goal.returns
unfolding summaries
returns c = (c.with_digit.ensures.0 ∙ add-zero _ ∙ rw (c.with_digit-a.ensures.0, add-zero), omega arith)
