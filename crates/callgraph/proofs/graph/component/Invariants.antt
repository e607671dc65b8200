-- `callgraph::graph::component` meets its contract. The loop's invariant: the flags below `g` are those of the
-- component.
use Rattle.program.specs.Sizes.{max_routines}
use Rattle.callgraph.specs.Parts.{together_flag}
use Rattle.base.proofs.BytesFilled.{Filling}
use Rattle.callgraph.proofs.graph.component.Given as goal

abbrev pub invariant-loop-g : goal.invariant-loop-g
invariant-loop-g l = Filling (together_flag l.leads l.f) max_routines l.initial.flags l.flags l.g
