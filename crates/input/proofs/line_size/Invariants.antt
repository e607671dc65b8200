-- `input::line_size` meets its contract. The loop's invariant: the line goes on to `i`.
use Rattle.input.proofs.LineEnds.{Within}
use Rattle.input.proofs.line_size.Given as goal

abbrev pub invariant-loop-i : goal.invariant-loop-i
invariant-loop-i l = Within l.input l.from l.i
