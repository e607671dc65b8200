-- `automaton::next::stay_unheard` meets its contract. The loop's invariant: below `i` the places have their sets.
use Rattle.automaton.specs.Sizes.{next_states_size}
use Rattle.base.proofs.BytesFilled.{Filling}
use Rattle.automaton.proofs.LabelsUnheard.{stayed}
use Rattle.automaton.proofs.next.stay_unheard.Given as goal

abbrev pub invariant-loop-i : goal.invariant-loop-i
invariant-loop-i l =
    let rule = stayed l.n.routines l.n.states l.n.actions l.heard l.initial.sets in
    Filling rule next_states_size l.initial.sets l.sets l.i
