-- `successors::follow_call` meets its contract. The loop's invariant: the roots from `y` on are left to try.
use Rattle.automaton.specs.Automaton.{call_of}
use Rattle.automaton.specs.NextStates.{set_at}
use Rattle.successors.specs.Parts.{root_step}
use Rattle.marking.proofs.StepsMark.{Looping}
use Rattle.marking.proofs.StatesTaken.{Leaving}
use Rattle.successors.proofs.follow_call.Given as goal

abbrev pub invariant-loop-y : goal.invariant-loop-y
invariant-loop-y l =
    Looping (root_step l.z l.next l.known l.base l.g l.q) l.z.states
    l.initial.marks l.initial.pending l.low l.y l.marks l.pending l.lowest
    × Leaving (set_at l.next l.q (call_of l.g)) l.y l.left
