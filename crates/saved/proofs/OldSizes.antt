-- A program of that time is within the old sizes.
use mathlib.Core.Path.{◌≡◌, refl}
use mathlib.Core.Bool.{false}
use Prim.Native.Nat.{◌≤◌}
use native.Mathlib.Omega.{arith}
use lib.Dec.{ltb}
use borrow.Author.Tests.{ltb-false}
use Rattle.base.proofs.Bools.{neither}
use Rattle.program.specs.declared.sizes.Sizes.{Sizes}
use Rattle.program.specs.Program.{Program}
use Rattle.program.specs.WellFormed.{WellFormed}
use Rattle.program.specs.Chosen.{largest, numbers, Admitted}
use Rattle.program.proofs.ChosenSizes.{admitted}
use Rattle.reach.specs.Configurations.{Usable}
use Rattle.reach.specs.Ranged.{Ranged, Sized}
use Rattle.reach.proofs.ProgramInSizes.{ranged}
use Rattle.saved.specs.Saved.{old_sizes, too_large}

-- ---- larger sizes have room for whatever smaller ones have

pub within_larger : {Y Z : Sizes} {p : Program} → Y.routines ≤ Z.routines → Y.nodes ≤ Z.nodes → Y.states ≤ Z.states → Ranged Y p → Ranged Z p
within_larger a b c y =
    record {
      main = omega (arith, a, y.main);
      routines = omega (arith, a, y.routines);
      routine = λ h. omega (arith, a, y.routine h);
      source = λ h. omega (arith, b, y.source h);
      target = λ h. omega (arith, b, y.target h);
      called = λ h. omega (arith, a, y.called h);
      no_exit = λ h. y.no_exit h;
      states = omega (arith, c, y.states);
      after = y.after;
      begun = λ h. y.begun h;
    }

-- ---- the old sizes

pub old_usable : Usable old_sizes
old_usable = record { nodes = omega arith; states = omega arith }

pub old_numbers : numbers old_sizes ≡ 16384
unfolding numbers
old_numbers = refl

pub old_admitted : Admitted old_sizes
old_admitted = record { routines = omega arith; nodes = omega arith; states = omega arith; product = omega (arith, old_numbers) }

pub old_sized : (p : Program) → WellFormed p → too_large p ≡ false → Sized old_sizes p
old_sized p w h =
    let n = neither (ltb 16 (largest p.nodes)) _ h in
    let q = neither (ltb 8 p.automaton.states) _ n.1 in
    record {
      usable = old_usable;
      admitted = old_admitted;
      ranged = within_larger (admitted p w).routines (ltb-false 16 (largest p.nodes) n.0) (ltb-false 8 p.automaton.states q.0) (ranged p w);
    }
