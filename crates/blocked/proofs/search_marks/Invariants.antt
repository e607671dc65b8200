-- `blocked::search_marks` meets its contract. The loop's invariant: the numbers from `i` on decide, whichever program has
-- these tables.
use Rattle.program.specs.Chosen.{numbers}
use Rattle.program.specs.Program.{Program}
use Rattle.support.specs.Parts.{Tables}
use Rattle.blocked.specs.Blocks.{is_blocked}
use Rattle.blocked.proofs.EdgesSought.{Seeking}
use Rattle.blocked.proofs.search_marks.Given as goal

abbrev pub invariant-loop-i : goal.invariant-loop-i
invariant-loop-i l = (p : Program) → Tables l.z p l.keys l.next → Seeking (is_blocked l.z p l.marks) (numbers l.z) l.low l.i
