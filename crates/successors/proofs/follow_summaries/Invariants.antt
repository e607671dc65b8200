-- `successors::follow_summaries` meets its contract. The loop's invariant: the states from `s` on are left to try.
use Rattle.successors.specs.Parts.{summary_step}
use Rattle.marking.proofs.StepsMark.{Looping}
use Rattle.marking.proofs.StatesTaken.{Leaving}
use Prim.Native.Nat.{◌-◌}
use Rattle.successors.proofs.follow_summaries.Given as goal

abbrev pub invariant-loop-left : goal.invariant-loop-left
invariant-loop-left l =
    Looping (summary_step l.z l.next l.known l.base l.g l.y) l.z.states
    l.initial.marks l.initial.pending l.low l.s l.marks l.pending l.lowest
    × Leaving l.initial.left l.s l.left

abbrev pub decreases-loop-left : goal.decreases-loop-left
decreases-loop-left l = l.z.states - l.s
