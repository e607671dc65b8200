use Rattle.reach.proofs.Numbers.{parts_routine, parts_root}
use Rattle.base.proofs.BytesFilled.{filling_more}
use Rattle.roots.proofs.RootsOccur.{kept_byte}
use native.Mathlib.Omega.{arith}
use borrow.Author.Rules.{rules}
use mathlib.Core.Path.{◌≡◌, ◌∙◌}
use mathlib.Core.Bool.{◌&&◌, not}
use lib.Dec.{eqb}
use lib.ListN.{get_or}
use Rattle.roots.proofs.cut.cut.Goals.{then-mark-ne0, else-mark-ne0}
use Rattle.roots.proofs.cut.cut.Goals as goal

pub loop-i-preserved : goal.loop-i-preserved
loop-i-preserved c =
    let is = c.parts_of-c.ensures in
    let l = c.loop-i in
    let flag = rw (c.root_place.ensures, parts_routine is, parts_root is) at c.is_set-occurs.ensures in
    let mark = l.invariant.left l.i (omega arith) in
    let both : c.if-mark-ne0.from ≡ (not (eqb (get_or l.marks l.i 0) 0) && c.is_set-occurs.result) =
    elim c.if-mark-ne0.branch [ then-mark-ne0 w ↦ search rules | else-mark-ne0 w ↦ search rules ]
    in
    filling_more l.invariant (omega arith) (c.from.ensures ∙ kept_byte both mark flag)
