-- `closure::part::is_first` meets its contract.
use borrow.Author.Tests.{eq-eqb, ne_eqb}
use Rattle.reach.proofs.Numbers.{parts_node}
use Rattle.closure.proofs.part.is_first.Goals as goal

pub returns-then-c-ne-EXIT : goal.returns-then-c-ne-EXIT
returns-then-c-ne-EXIT c = rw (ne_eqb _ _ (rw (parts_node c.parts_of-c.ensures) at c.if-c-ne-EXIT.true))

pub returns-else-c-ne-EXIT : goal.returns-else-c-ne-EXIT
returns-else-c-ne-EXIT c =
    let node = parts_node c.parts_of-c.ensures in
    rw (node, eq-eqb _ _ (rw node at c.if-c-ne-EXIT.false))
