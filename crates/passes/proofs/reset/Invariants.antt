-- `passes::reset` meets its contract. The loop's invariant: the first `i` marks are written, the others are as they
-- were.
use Rattle.program.specs.Chosen.{numbers}
use Rattle.base.proofs.BytesFilled.{Filling}
use Rattle.passes.specs.PassParts.{first_marks}
use Rattle.passes.proofs.reset.Given as goal

abbrev pub invariant-loop-i : goal.invariant-loop-i
invariant-loop-i l =
    Filling (first_marks l.z l.members l.roots l.initial.marks) (numbers l.z) l.initial.marks l.marks l.i
