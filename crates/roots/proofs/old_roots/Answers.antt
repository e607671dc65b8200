use Rattle.base.proofs.BytesFilled.{filling_all}
use Rattle.roots.proofs.RootsOccur.{entries_flagged}
use native.Mathlib.Omega.{arith}
use Rattle.roots.proofs.old_roots.Goals as goal

pub returns : goal.returns
returns c =
    entries_flagged c.args.z c.requires.0 c.requires.1 c.args.marks.now
    (filling_all c.loop-i.invariant (omega arith))
