-- `reach::configuration::root_place` meets its contract.
use Rattle.reach.specs.Configurations.{root_place}
use borrow.Author.Rules.{rules}
use Rattle.reach.proofs.configuration.root_place.Goals as goal

pub returns : goal.returns
unfolding root_place
returns c = search rules
