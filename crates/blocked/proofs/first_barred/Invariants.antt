-- `blocked::first_barred` meets its contract. The loop's invariant: the edges from `i` on decide, and `i` is one of the
-- node's if it is an edge.
use Prim.Native.Nat.{◌-◌}
use lib.ListN.{length, get_or}
use Rattle.program.specs.Decoded.{edge_of}
use Rattle.index.specs.Index.{leaves}
use Rattle.blocked.specs.Parts.{no_next}
use Rattle.blocked.proofs.EdgesSought.{Chained}
use Rattle.blocked.proofs.first_barred.Given as goal

abbrev pub invariant-loop-i : goal.invariant-loop-i
invariant-loop-i l =
    Chained (leaves l.keys l.c.routine l.c.node) (λ j. no_next l.next l.c.state (edge_of (get_or l.keys j 0)).label) (length l.keys) l.i

abbrev pub decreases-loop-i : goal.decreases-loop-i
decreases-loop-i l = length l.keys - l.i
