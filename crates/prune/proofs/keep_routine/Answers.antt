-- `prune::keep_routine` meets its contract: the part of the table that is handed on has the edges of routine `f`.
use native.Mathlib.Omega.{arith}
use Rattle.index.proofs.RoutinePart.{part_starts}
use Rattle.support.proofs.PartSearched.{its_part}
use Rattle.prune.proofs.keep_routine.Goals as goal

pub slice_bounds-keep_numbers-count : goal.slice_bounds-keep_numbers-count
slice_bounds-keep_numbers-count c = part_starts c.first_of-from.ensures c.first_of-to.ensures

pub slice_bounds-keep_numbers-start : goal.slice_bounds-keep_numbers-start
slice_bounds-keep_numbers-start c = let x = part_starts c.first_of-from.ensures c.first_of-to.ensures in omega (arith, x)

pub keep_numbers-requires : goal.keep_numbers-requires
keep_numbers-requires c =
    let z = c.requires in
    record { usable = (z.usable.0, z.usable.1, z.usable.2, its_part c.first_of-from.ensures c.first_of-to.ensures z.usable.3); marks_len = z.marks_len }
