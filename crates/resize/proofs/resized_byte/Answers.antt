-- `resize::resized_byte` meets its contract.
use borrow.Author.Tests.{lt-ltb, le-ltb}
use native.Mathlib.Omega.{arith}
use Prim.Native.Nat.{ℕ}
use mathlib.Core.Path.{ap, ◌∙◌}
use lib.ListN.{get_or}
use Rattle.reach.proofs.Numbers.{number_fits}
use Rattle.resize.proofs.MarksResized.{alike_range, by_parts}
use Rattle.resize.proofs.resized_byte.Goals as goal

pub bounds-old-at : goal.bounds-old-at
bounds-old-at c =
    let k = number_fits (alike_range c.requires.usable.1 c.parts_of-c.ensures.in_range c.if-c-z.true) in
    omega (arith, k, c.requires.len.0, c.number_of-at.ensures.0)

pub returns-then-c-z : goal.returns-then-c-z
returns-then-c-z c =
    let e = by_parts c.args.z c.args.old.now c.parts_of-c.ensures in
    ap (λ (k : ℕ). get_or c.args.old.now k 0) c.number_of-at.ensures.0 ∙ (rw (lt-ltb _ _ c.if-c-z.true) at e)

pub returns-else-c-z : goal.returns-else-c-z
returns-else-c-z c =
    let e = by_parts c.args.z c.args.old.now c.parts_of-c.ensures in
    rw (le-ltb _ _ c.if-c-z.false) at e
