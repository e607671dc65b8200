-- `forward::prune_marks` meets its contract. Nothing of the call is cited, so that another call in the place of the
-- keeping is refused for what it fails to promise of whatever marks are lent.
use borrow.Author.Rules.{rules}
use Rattle.forward.proofs.prune_marks.Goals as goal

pub returns : goal.returns
returns c = (search rules, search rules)
