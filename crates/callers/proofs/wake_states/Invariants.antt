-- `callers::wake_states` meets its contract. The loop's invariant: the states from `x` on are left to try.
use Rattle.program.specs.Decoded.{edge_view}
use Rattle.callers.specs.Parts.{state_step}
use Rattle.marking.proofs.StepsMark.{Looping}
use Rattle.callers.proofs.wake_states.Given as goal

abbrev pub invariant-loop-x : goal.invariant-loop-x
invariant-loop-x l =
    Looping (state_step l.z l.next l.r (edge_view l.e)) l.z.states
    l.marks l.initial.pending l.low l.x l.marks l.pending l.lowest
