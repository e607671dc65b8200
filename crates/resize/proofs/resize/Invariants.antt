-- `resize::resize` meets its contract. The loop's invariant: the bytes below `i` are written.
use Rattle.program.specs.Chosen.{numbers}
use Rattle.resize.specs.Resized.{renumbered}
use Rattle.base.proofs.BytesFilled.{Filling}
use Rattle.resize.proofs.resize.Given as goal

abbrev pub invariant-loop-i : goal.invariant-loop-i
invariant-loop-i l = Filling (renumbered l.z l.y l.old) (numbers l.y) l.initial.new l.new l.i
