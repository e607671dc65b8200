-- `passes::round` meets its contract. The loop's invariant: the routines below `f` have had their turn.
use Rattle.program.specs.Decoded.{program_of}
use Rattle.passes.specs.PassParts.{Round}
use Rattle.passes.proofs.round.Given as goal

abbrev pub invariant-loop-f : goal.invariant-loop-f
invariant-loop-f l = Round l.z (program_of l.p) l.members l.f l.initial.marks l.marks
