-- `reach::configuration::entry_at` meets its contract.
use Rattle.reach.specs.Configurations.{entry_at}
use borrow.Author.Rules.{rules}
use Rattle.reach.proofs.configuration.entry_at.Goals as goal

pub returns : goal.returns
unfolding entry_at
returns c = search rules
