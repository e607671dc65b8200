-- What is proved of a block, besides that it is printed: none is longer than block_size.
use mathlib.Core.Path.{◌≡◌}
use mathlib.Core.List.{List, [], ◌∷◌, map}
use Prim.Native.Nat.{ℕ, ◌≤◌}
use native.Mathlib.Omega.{arith}
use lib.ListN.{length}
use Rattle.program.specs.declared.sizes.Sizes.{Sizes}
use Rattle.program.specs.Chosen.{numbers, Admitted}
use Rattle.program.specs.Program.{Program}
use Rattle.reach.specs.Configurations.{Usable}
use Rattle.reach.specs.Marks.{violations_from}
use Rattle.base.specs.Flags.{count_set}
use Rattle.reach.proofs.MarksShown.{count_small}
use Rattle.reach.proofs.ViolationsExact.{violations_fewer}
use Rattle.writer.proofs.FramesPut.{long_append, long_one}
use Rattle.listing.proofs.ListingPut.{frames_long}
use Rattle.report.specs.Report.{violation_frame, count_frame, block_at, block_size}

-- there are at most as many violations as marks
pub violations_limited : (Z : Sizes) → Usable Z → (p : Program) (marks : List ℕ) → length (violations_from Z p marks 0) ≤ length marks
violations_limited Z U p marks = omega (arith, violations_fewer Z U p marks 0, count_small marks)

pub block_limited : (Z : Sizes) → Usable Z → Admitted Z → (p : Program) (marks : List ℕ) → length marks ≡ numbers Z → length (block_at Z p marks) ≤ block_size
unfolding block_at
block_limited Z U A p marks h =
    let vs : List ℕ = violations_from Z p marks 0 in
    let f : List ℕ = count_frame (count_set marks) (length vs) in
    omega (arith, long_append (map (violation_frame Z) vs) (f ∷ []), long_one f, frames_long 0x58 Z vs, violations_limited Z U p marks, A.product)
