-- `reach::split::quotient` meets its contract.
use Rattle.reach.proofs.ProductsDivide.{product_fits}
use native.Mathlib.Omega.{arith}
use Rattle.reach.proofs.split.quotient.Goals as goal

pub overflow_mul-result : goal.overflow_mul-result
overflow_mul-result c = omega (arith, product_fits c.args.i c.args.reciprocal c.requires.0 c.requires.1)
