use Rattle.reader.proofs.ReadingLoop.{Reads}
use lib.ListN.{length}
use Prim.Native.Nat.{◌-◌}
use Rattle.rows.specs.Decoded.{rows_of}
use Rattle.reader.proofs.read.Given as goal

abbrev pub invariant-loop-at : goal.invariant-loop-at
invariant-loop-at l = Reads l.file l.s (rows_of l.rows) l.at

abbrev pub decreases-loop-at : goal.decreases-loop-at
decreases-loop-at l = length l.file - l.at
