-- `callgraph::graph::copy_row` meets its contract. The loop's invariant: what is left to copy from `h` on gives the
-- whole row.
use Rattle.program.specs.Sizes.{max_routines}
use Rattle.callgraph.specs.Parts.{copy_lead}
use Rattle.callgraph.proofs.FlagsClosed.{Turning}
use Rattle.callgraph.proofs.graph.copy_row.Given as goal

abbrev pub invariant-loop-h : goal.invariant-loop-h
invariant-loop-h l = Turning (copy_lead l.f l.g) max_routines l.initial.leads l.h l.leads
