-- `input::file_size` meets its contract. The loop's invariant: what is left at `at` decides where the file ends.
use Prim.Native.Nat.{◌-◌}
use lib.ListN.{length}
use Rattle.input.proofs.LineEnds.{FileFrom}
use Rattle.input.proofs.file_size.Given as goal

abbrev pub invariant-loop-at : goal.invariant-loop-at
invariant-loop-at l = FileFrom l.input l.at

abbrev pub decreases-loop-at : goal.decreases-loop-at
decreases-loop-at l = length l.input - l.at
