-- `reach::split::rest` meets its contract.
use Prim.Native.Nat.{◌+◌, ◌%◌, ◌≤◌}
use mathlib.Core.Path.{◌≡◌}
use native.Mathlib.Nat.{div-add-mod', div-le_self, mod-lt}
use native.Mathlib.Omega.{arith}
use borrow.Author.Rules.{rules}
use Rattle.reach.proofs.split.rest.Goals as goal
use Rattle.reach.proofs.split.rest.Goals.{After-with_digit}

pub with_digit-requires : goal.with_digit-requires
with_digit-requires c = omega (arith, c.requires.2, div-le_self c.args.i c.args.base)

-- what is taken off leaves the rest
taken-off : (c : After-with_digit) → let a = c.args in c.with_digit.result + a.i % a.base ≡ a.i
taken-off c =
    let e = rw c.requires.2 at c.with_digit.ensures.0 in
    omega (arith, e, div-add-mod' c.args.i c.args.base)

pub narrow-requires : goal.narrow-requires
narrow-requires c =
    let byte : c.args.base ≤ 255 = search rules in
    omega (arith, taken-off c, mod-lt c.args.i c.requires.0)

pub returns : goal.returns
returns c = omega (arith, c.narrow.ensures, taken-off (goal.at.returns c).After-with_digit)

pub overflow_sub-i : goal.overflow_sub-i
overflow_sub-i c = omega (arith, taken-off c)
