-- `marking::mark_each` meets its contract. The loop's invariant: the states from `s` on are left to mark.
use Rattle.marking.specs.Parts.{mark_state}
use Rattle.marking.proofs.StepsMark.{Looping}
use Rattle.marking.proofs.StatesTaken.{Leaving}
use Prim.Native.Nat.{◌-◌}
use Rattle.marking.proofs.mark_each.Given as goal

abbrev pub invariant-loop-left : goal.invariant-loop-left
invariant-loop-left l =
    Looping (mark_state l.set l.base) l.states l.initial.marks l.initial.pending l.low l.s l.marks l.pending l.lowest
    × Leaving l.set l.s l.left

abbrev pub decreases-loop-left : goal.decreases-loop-left
decreases-loop-left l = l.states - l.s
