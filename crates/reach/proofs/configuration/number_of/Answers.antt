-- `reach::configuration::number_of` meets its contract.
use native.Mathlib.Omega.{arith}
use Rattle.reach.specs.Configurations.{number}
use Rattle.reach.proofs.configuration.number_of.Goals as goal

pub returns : goal.returns
unfolding number
returns c = (cc, omega arith)
