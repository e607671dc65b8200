-- `reach::configuration::low_digit` meets its contract.
use Prim.Native.Nat.{◌<◌, ◌%◌}
use native.Mathlib.Nat.{mod-lt}
use native.Mathlib.Omega.{arith}
use Rattle.reach.proofs.configuration.low_digit.Goals as goal

pub overflow_cast-result : goal.overflow_cast-result
overflow_cast-result c =
    let h : c.args.i % c.wide.result < c.wide.result = mod-lt _ (omega (arith, c.requires, c.wide.ensures.0)) in
    omega (arith, h, c.wide.ensures.1)

pub returns : goal.returns
returns c = rw c.wide.ensures.0
