-- `listing::frame_line` meets its contract.
use mathlib.Core.Path.{refl}
use Rattle.reach.proofs.Numbers.{parts_routine, parts_node, parts_root, parts_state}
use Rattle.listing.proofs.frame_line.Goals as goal

pub returns : goal.returns
returns c =
    let parts = c.parts_of-c.ensures in
    rw (← (parts_routine parts), ← (parts_node parts), ← (parts_root parts), ← (parts_state parts)) refl
