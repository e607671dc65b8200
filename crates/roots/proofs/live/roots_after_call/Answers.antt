use Rattle.callgraph.proofs.FlagsClosed.{turning_turn, turning_end}
use native.Mathlib.Omega.{arith}
use Rattle.roots.proofs.live.roots_after_call.Goals as goal

pub loop-s-preserved : goal.loop-s-preserved
loop-s-preserved c =
    let same = rw (c.has_bit.ensures, c.root_place-to.ensures) at c.copy_when.ensures in
    turning_turn c.loop-s.invariant (omega arith) same c.copy_when.auto.flags

pub returns : goal.returns
returns c =
    rw (c.next_after-set.ensures, c.called_by-g.ensures) at (turning_end c.loop-s.invariant (omega arith))
