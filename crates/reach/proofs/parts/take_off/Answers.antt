use native.Mathlib.Nat.{add-mul}
use native.Mathlib.Omega.{arith}
use Rattle.reach.proofs.parts.take_off.Goals as goal

pub loop-left-preserved : goal.loop-left-preserved
loop-left-preserved c =
    let h = add-mul c.loop-left.times 1 c.args.span in
    (omega arith, omega arith)

pub returns : goal.returns
returns c = record { is = c.loop-left.invariant.0; less = omega arith; few = omega arith }
