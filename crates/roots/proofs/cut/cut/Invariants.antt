-- `roots::cut::cut` meets its contract. The loop's invariant: the bytes below `i` are cut, the others are as
-- they were.
use Rattle.program.specs.Chosen.{numbers}
use Rattle.base.proofs.BytesFilled.{Filling}
use Rattle.roots.specs.Parts.{kept_byte_of}
use Rattle.roots.proofs.cut.cut.Given as goal

abbrev pub invariant-loop-i : goal.invariant-loop-i
invariant-loop-i l = Filling (kept_byte_of l.z l.live l.initial.marks) (numbers l.z) l.initial.marks l.marks l.i
