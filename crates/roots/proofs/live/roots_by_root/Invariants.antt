-- `roots::live::roots_by_root` meets its contract.
use Rattle.program.specs.Decoded.{edge_view}
use Rattle.roots.specs.Parts.{roots_when_marked}
use Rattle.callgraph.proofs.FlagsClosed.{Turning}
use Rattle.roots.proofs.live.roots_by_root.Given as goal

abbrev pub invariant-loop-q : goal.invariant-loop-q
invariant-loop-q l =
    Turning (roots_when_marked l.z l.marks l.next (edge_view l.e) l.r) l.z.states l.initial.live l.q l.live
