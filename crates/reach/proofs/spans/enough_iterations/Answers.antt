-- `reach::spans::enough_iterations` meets its contract.
use Prim.Native.Nat.{◌^◌, ◌≤◌, ◌+◌}
use native.Mathlib.Nat.{mul-le-mul}
use native.Mathlib.Omega.{arith}
use Rattle.reach.specs.Sizes.{enough_iterations}
use Rattle.reach.proofs.spans.enough_iterations.Goals as goal

pub overflow_mul-result : goal.overflow_mul-result
overflow_mul-result c = let x : c.length_of.result ≤ 2 ^ 32 = omega (arith, c.length_of.ensures.1) in
    let y : 1 + c.summary_count.result ≤ 2 ^ 24 = omega (arith, c.summary_count.ensures.1) in
    let h = mul-le-mul {n₂ = 2 ^ 32} {m₂ = 2 ^ 24} x y in
    omega arith

pub returns : goal.returns
unfolding enough_iterations
returns c = rw (c.length_of.ensures.0, c.summary_count.ensures.0)
