-- `program::sizes::with_digit` meets its contract.
use Prim.Native.Nat.{◌^◌, ◌≤◌}
use native.Mathlib.Nat.{mul-le-mul, mul-le-mul_left}
use native.Mathlib.Omega.{arith}
use Rattle.program.proofs.sizes.with_digit.Goals as goal

pub overflow_mul-result : goal.overflow_mul-result
overflow_mul-result c =
    let x : c.from.result ≤ 255 = omega (arith, c.from.ensures) in
    let h = mul-le-mul {n₂ = 2 ^ 48} {m₂ = 255} c.requires x in
    omega arith

pub overflow_add-result : goal.overflow_add-result
overflow_add-result c =
    let x : c.from.result ≤ 255 = omega (arith, c.from.ensures) in
    let h = mul-le-mul {n₂ = 2 ^ 48} {m₂ = 255} c.requires x in
    omega (arith, c.from-2.ensures)

pub returns : goal.returns
returns c =
    let x : c.from.result ≤ 255 = omega (arith, c.from.ensures) in
    let h = mul-le-mul_left c.args.h x in
    (rw (c.from.ensures, c.from-2.ensures), omega (arith, c.from-2.ensures))
