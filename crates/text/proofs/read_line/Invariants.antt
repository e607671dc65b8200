-- `text::read_line` meets its contract. The loop's invariant: the numbers so far, and those from `i` on, are the line's.
use Prim.Native.Nat.{◌-◌}
use lib.ListN.{length}
use Rattle.text.proofs.NumbersGathered.{Gathered}
use Rattle.text.proofs.read_line.Given as goal

abbrev pub invariant-loop-i : goal.invariant-loop-i
invariant-loop-i v = Gathered v.s v.at v.l v.i

abbrev pub decreases-loop-i : goal.decreases-loop-i
decreases-loop-i v = length v.s - v.i
