-- `stages::drop_copied` meets its contract. The copy is not named, so that other marks in its place are refused for what is
-- not kept of those that were lent.
use borrow.Author.Rules.{rules}
use Rattle.stages.proofs.drop_copied.Goals as goal

pub returns : goal.returns
returns c = search rules
