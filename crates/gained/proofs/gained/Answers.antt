use native.Mathlib.Omega.{arith}
use Rattle.gained.proofs.RoutinesGained.{gaining_end}
use Rattle.gained.proofs.gained.Goals as goal

pub returns : goal.returns
returns c = gaining_end c.requires.0 c.loop-i.invariant (omega (arith, c.requires.3))
