-- `roots::live::roots_by_call` meets its contract.
use Rattle.program.specs.Decoded.{edge_view}
use Rattle.roots.specs.Parts.{roots_by_root}
use Rattle.callgraph.proofs.FlagsClosed.{Turning}
use Rattle.roots.proofs.live.roots_by_call.Given as goal

abbrev pub invariant-loop-r : goal.invariant-loop-r
invariant-loop-r l = Turning (roots_by_root l.z l.marks l.next (edge_view l.e)) l.z.states l.initial.live l.r l.live
