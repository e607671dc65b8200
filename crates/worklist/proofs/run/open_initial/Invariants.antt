-- `worklist::run::open_initial` meets its contract. The loop's invariant: the states from `q` on are left to open.
use Rattle.reach.specs.Configurations.{number}
use Rattle.reach.specs.Worklist.{mark as marked}
use Rattle.marking.proofs.StepsMark.{Looping}
use lib.ListN.{length, get_or}
use Rattle.worklist.proofs.run.open_initial.Given as goal

abbrev pub invariant-loop-q : goal.invariant-loop-q
invariant-loop-q l =
    let list = l.q-items in
    Looping (λ j. marked (number l.z 0 0 (get_or list j 0) (get_or list j 0))) (length list)
    l.initial.marks l.initial.pending 0 l.q-index l.marks l.pending l.low
