-- `saved::mark_frames::is_text_of` meets its contract.
use Rattle.saved.proofs.TextCompared.{Walking}
use Rattle.saved.proofs.mark_frames.is_text_of.Given as goal

abbrev pub invariant-loop-i : goal.invariant-loop-i
invariant-loop-i l = Walking l.s l.marks l.at l.i
