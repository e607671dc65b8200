-- `gained::gained` meets its contract. The loop's invariant: the flags are those of the new marks below `i`.
use Rattle.gained.proofs.RoutinesGained.{Gaining}
use Rattle.gained.proofs.gained.Given as goal

abbrev pub invariant-loop-i : goal.invariant-loop-i
invariant-loop-i l = Gaining l.z l.old l.new l.i l.flags
