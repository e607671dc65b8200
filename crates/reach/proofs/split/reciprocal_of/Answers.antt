-- `reach::split::reciprocal_of` meets its contract.
use Rattle.reach.proofs.ProductsDivide.{reciprocal}
use native.Mathlib.Omega.{arith}
use Rattle.reach.proofs.split.reciprocal_of.Goals as goal

pub overflow_add-result : goal.overflow_add-result
overflow_add-result c = omega (arith, (reciprocal c.args.span c.requires.0 c.requires.1).small)

pub returns : goal.returns
returns c = reciprocal c.args.span c.requires.0 c.requires.1
