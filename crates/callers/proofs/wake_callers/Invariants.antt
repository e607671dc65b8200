-- `callers::wake_callers` meets its contract. The loop's invariant: the edges from `i` on are left to try.
use Rattle.index.specs.Index.{calls_one}
use Rattle.program.specs.Decoded.{edge_of}
use Rattle.callers.specs.Parts.{caller_step}
use Rattle.marking.proofs.EdgesChased.{Chasing}
use lib.ListN.{length, get_or}
use Prim.Native.Nat.{◌-◌}
use Rattle.callers.proofs.wake_callers.Given as goal

abbrev pub invariant-loop-i : goal.invariant-loop-i
invariant-loop-i l =
    Chasing (calls_one l.keys l.f) (λ j. caller_step l.z l.next l.f l.r (edge_of (get_or l.keys j 0)))
    (length l.keys) l.marks l.initial.pending l.low l.i l.marks l.pending l.lowest

abbrev pub decreases-loop-i : goal.decreases-loop-i
decreases-loop-i l = length l.keys - l.i
