-- `worklist::pending::follow_pending` meets its contract. The loop's invariant: the bytes are on the way to the result.
use Rattle.worklist.proofs.LoopFollows.{Going}
use Rattle.reach.specs.Configurations.{Usable}
use Prim.Native.Nat.{◌-◌}
use Rattle.worklist.proofs.pending.follow_pending.Given as goal

abbrev pub invariant-loop-at : goal.invariant-loop-at
invariant-loop-at l =
    (U : Usable l.z) × Going l.z U l.limit l.keys l.index l.next
    l.initial.marks l.initial.pending l.initial.known l.marks l.pending l.known l.iterations l.at

abbrev pub decreases-loop-at : goal.decreases-loop-at
decreases-loop-at l = l.limit - l.iterations
