-- `program::sizes::length_of` meets its contract.
use mathlib.Core.Path.{◌∙◌}
use native.Mathlib.Nat.{add-zero}
use native.Mathlib.Omega.{arith}
use Rattle.program.specs.Chosen.{numbers}
use Rattle.program.proofs.sizes.length_of.Goals as goal

pub returns : goal.returns
unfolding numbers
returns c = (
  c.with_digit.ensures.0 ∙ add-zero _
      ∙ rw (c.with_digit-b.ensures.0, add-zero, c.with_digit-a.ensures.0, add-zero, c.from.ensures),
  omega arith,
)
