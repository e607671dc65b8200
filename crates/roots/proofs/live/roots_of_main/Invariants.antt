-- `roots::live::roots_of_main` meets its contract. The loop's invariant: what the states from there on add gives
-- the whole.
use Rattle.reach.specs.Configurations.{root_place}
use Rattle.callgraph.proofs.FlagsClosed.{Turning}
use lib.ListN.{length, get_or, set}
use Rattle.roots.proofs.live.roots_of_main.Given as goal

abbrev pub invariant-loop-q : goal.invariant-loop-q
invariant-loop-q v =
    Turning (λ j. λ l. set l (root_place 0 (get_or v.fn.initial.list j 0)) 1) (length v.q-items) v.initial.live
    v.q-index v.live
