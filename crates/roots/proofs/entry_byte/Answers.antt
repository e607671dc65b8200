-- `roots::entry_byte` meets its contract.
use Prim.Native.Nat.{◌<◌}
use native.Mathlib.Omega.{arith}
use Rattle.program.specs.Chosen.{numbers}
use Rattle.reach.specs.Configurations.{InRange, number}
use Rattle.reach.proofs.Numbers.{number_fits}
use Rattle.roots.proofs.entry_byte.Goals as goal

pub bounds-marks-entry_of : goal.bounds-marks-entry_of
bounds-marks-entry_of c =
    let a = c.args in
    let in_range : InRange a.z a.f 0 a.r a.r =
    record {
      routine = c.if-f-z.true;
      node = omega (arith, c.requires.0.nodes);
      root = c.if-r-z.true;
      state = c.if-r-z.true;
    }
    in
    let h : number a.z a.f 0 a.r a.r < numbers a.z = number_fits in_range in
    omega (arith, c.entry_of.ensures.0, c.requires.1, h)
