-- `prune::keep_pass` meets its contract. The loop's invariant: what the pass has done to the numbers of the
-- routines below `f`.
use Prim.Native.Nat.{◌*◌}
use Rattle.prune.specs.Parts.{keeps_at, Passed}
use Rattle.reach.specs.Sizes.{routine_span}
use Rattle.prune.proofs.keep_pass.Given as goal

abbrev pub invariant-loop-f : goal.invariant-loop-f
invariant-loop-f l =
    Passed l.z (keeps_at l.z l.keys l.next l.marks) l.initial.kept l.kept l.more 0 (l.f * routine_span l.z)
