-- `prune::keep_all` meets its contract. The loop's invariant: after a pass that kept nothing more, nothing is left.
use Rattle.prune.specs.Parts.{keeps_at}
use Rattle.prune.proofs.PassesKeep.{Passing}
use Prim.Native.Nat.{◌+◌, ◌-◌}
use mathlib.Core.Bool.{cond}
use Rattle.base.specs.Flags.{count_set}
use Rattle.program.specs.Chosen.{numbers}
use Rattle.reach.specs.Configurations.{Usable}
use Rattle.prune.proofs.keep_all.Given as goal

abbrev pub invariant-loop-more : goal.invariant-loop-more
invariant-loop-more l =
    (U : Usable l.z) × Passing l.z U (keeps_at l.z l.keys l.next l.marks) l.initial.kept l.kept l.more

abbrev pub decreases-loop-more : goal.decreases-loop-more
decreases-loop-more l = numbers l.z - count_set l.kept + cond l.more 1 0
