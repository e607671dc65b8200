-- `passes::first_mark` meets its contract: each return is one branch of the definition.
use Rattle.reach.proofs.Numbers.{parts_routine, parts_node, parts_root, parts_state}
use mathlib.Core.Path.{sym, ◌∙◌}
use Rattle.passes.proofs.first_mark.Goals as goal

pub returns-then-is_set : goal.returns-then-is_set
returns-then-is_set c =
    let p = c.parts_of-c.ensures in
    let inside = sym (rw (parts_routine p) at c.is_set.ensures) ∙ c.if-is_set.true in
    let root = rw (parts_routine p, parts_node p, parts_root p, parts_state p) at c.at_root.ensures in
    rw inside root

pub returns-else-is_set : goal.returns-else-is_set
returns-else-is_set c =
    let p = c.parts_of-c.ensures in
    let outside = sym (rw (parts_routine p) at c.is_set.ensures) ∙ c.if-is_set.false in
    rw outside
