use Prim.Native.Nat.{◌-◌}
use lib.ListN.{length}
use Rattle.program.specs.Decoded.{program_of}
use Rattle.ranges.specs.Limits.{limits_of}
use Rattle.exchange_text.specs.Parts.{found_of}
use Rattle.exchange_text.proofs.TextLoop.{Decides}
use Rattle.exchange_text.proofs.wanted_exchange.Given as goal

abbrev pub invariant-loop-at : goal.invariant-loop-at
invariant-loop-at l = Decides l.text l.at (program_of l.p) (limits_of l.h) l.first (found_of l.s)

abbrev pub decreases-loop-at : goal.decreases-loop-at
decreases-loop-at l = length l.text - l.at
