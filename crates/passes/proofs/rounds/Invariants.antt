-- `passes::rounds` meets its contract. The loop's invariant: the marks have grown by the edges of the component; each round but the last marks more.
use Rattle.program.specs.Chosen.{numbers}
use Rattle.program.specs.Decoded.{program_of}
use Rattle.base.specs.Flags.{count_set}
use Rattle.passes.specs.PassParts.{Grows}
use Prim.Native.Nat.{◌-◌}
use Rattle.passes.proofs.rounds.Given as goal

abbrev pub invariant-loop-z : goal.invariant-loop-z
invariant-loop-z l = Grows l.z (program_of l.p) l.members l.initial.marks l.marks

abbrev pub decreases-loop-z : goal.decreases-loop-z
decreases-loop-z l = numbers l.z - count_set l.marks
