-- `prune::keep_numbers` meets its contract. The loop's invariant: what was done to the numbers of routine
-- `f` below `i`.
use Rattle.prune.specs.Parts.{keeps_at, Passed}
use Rattle.prune.proofs.keep_numbers.Given as goal

abbrev pub invariant-loop-i : goal.invariant-loop-i
invariant-loop-i l =
    Passed l.z (keeps_at l.z l.keys l.next l.marks) l.initial.kept l.kept l.more l.first l.i
