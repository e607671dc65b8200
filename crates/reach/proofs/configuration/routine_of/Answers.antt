-- `reach::configuration::routine_of` meets its contract.
use mathlib.Core.Path.{◌∙◌}
use native.Mathlib.Omega.{arith}
use Rattle.reach.proofs.Numbers.{parts_routine}
use Rattle.reach.proofs.configuration.routine_of.Goals as goal

pub returns : goal.returns
returns c = let parts = c.parts_of-c.ensures in
    let e = c.wide.ensures.0 in
    (e ∙ parts_routine parts, omega (arith, e, parts.in_range.routine))
