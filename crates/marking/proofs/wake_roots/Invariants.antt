-- `marking::wake_roots` meets its contract. The loop's invariant: the roots from `r` on are left to wake.
use Rattle.marking.specs.Parts.{wake_at}
use Rattle.marking.proofs.StepsMark.{Looping}
use Rattle.marking.proofs.wake_roots.Given as goal

abbrev pub invariant-loop-r : goal.invariant-loop-r
invariant-loop-r l =
    Looping (wake_at l.states l.base) l.states l.marks l.initial.pending l.low l.r l.marks l.pending l.lowest
