-- `reach::configuration::summary_of` meets its contract.
use native.Mathlib.Omega.{arith}
use Rattle.reach.specs.Worklist.{summary}
use Rattle.reach.proofs.configuration.summary_of.Goals as goal

pub returns : goal.returns
unfolding summary
returns c = (cc, omega arith)
