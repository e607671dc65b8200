-- `roots::live::roots_when_marked` meets its contract.
use mathlib.Core.Path.{sym, ◌∙◌}
use Rattle.roots.specs.Parts.{roots_when_marked}
use Rattle.roots.proofs.live.roots_when_marked.Goals as goal

pub returns-then-is_set : goal.returns-then-is_set
unfolding roots_when_marked
returns-then-is_set c =
    let flag = rw c.number_of.ensures.0 at c.is_set.ensures in
    let set = sym flag ∙ c.if-is_set.true in
    rw set (rw c.root_place-from.ensures at c.roots_after_call.ensures)

pub returns-else-is_set : goal.returns-else-is_set
unfolding roots_when_marked
returns-else-is_set c =
    let flag = rw c.number_of.ensures.0 at c.is_set.ensures in
    rw (sym flag ∙ c.if-is_set.false)
