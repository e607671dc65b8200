-- `successors::follow_edges` meets its contract. The loop's invariant: the edges from `i` on are left to follow.
use Rattle.index.specs.Index.{leaves}
use Rattle.program.specs.Decoded.{edge_of}
use Rattle.successors.specs.Parts.{edge_step}
use Rattle.marking.proofs.EdgesChased.{Chasing}
use lib.ListN.{length, get_or}
use Prim.Native.Nat.{◌-◌}
use Rattle.successors.proofs.follow_edges.Given as goal

abbrev pub invariant-loop-i : goal.invariant-loop-i
invariant-loop-i l =
    let c = l.c in
    Chasing (leaves l.keys c.routine c.node)
    (λ j. edge_step l.z l.next l.known c.routine c.node c.root c.state (edge_of (get_or l.keys j 0)))
    (length l.keys) l.initial.marks l.initial.pending l.low l.i l.marks l.pending l.lowest

abbrev pub decreases-loop-i : goal.decreases-loop-i
decreases-loop-i l = length l.keys - l.i
