-- `callgraph::routines::join` meets its contract. The loop's invariant: the flags below `f` are those of the union.
use Rattle.program.specs.Sizes.{max_routines}
use Rattle.base.proofs.BytesFilled.{Filling}
use Rattle.callgraph.specs.Parts.{joined_flag}
use Rattle.callgraph.proofs.routines.join.Given as goal

abbrev pub invariant-loop-f : goal.invariant-loop-f
invariant-loop-f l = Filling (joined_flag l.initial.flags l.b.flags) max_routines l.initial.flags l.flags l.f
