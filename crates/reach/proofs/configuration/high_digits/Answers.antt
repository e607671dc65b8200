-- `reach::configuration::high_digits` meets its contract.
use Rattle.reach.proofs.configuration.high_digits.Goals as goal

pub returns : goal.returns
returns c = rw c.wide.ensures.0
