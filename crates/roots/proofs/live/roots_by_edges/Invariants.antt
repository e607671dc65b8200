-- `roots::live::roots_by_edges` meets its contract. The loop's invariant: what the edges from there on add gives
-- the whole.
use Rattle.program.specs.Decoded.{edge_of}
use Rattle.roots.specs.Parts.{roots_by_edge}
use Rattle.callgraph.proofs.FlagsClosed.{Turning}
use lib.ListN.{length, get_or}
use Rattle.roots.proofs.live.roots_by_edges.Given as goal

abbrev pub invariant-loop-key : goal.invariant-loop-key
invariant-loop-key l =
    Turning (λ j. roots_by_edge l.z l.marks l.next (edge_of (get_or l.keys j 0))) (length l.keys) l.initial.live
    l.key-index l.live
