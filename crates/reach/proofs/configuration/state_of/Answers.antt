-- `reach::configuration::state_of` meets its contract.
use mathlib.Core.Path.{◌∙◌}
use native.Mathlib.Omega.{arith}
use Rattle.reach.proofs.Numbers.{parts_state}
use Rattle.reach.proofs.configuration.state_of.Goals as goal

pub returns : goal.returns
returns c = let parts = c.parts_of-c.ensures in
    let e = c.wide.ensures.0 in
    (e ∙ parts_state parts, omega (arith, e, parts.in_range.state))
