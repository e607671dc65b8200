-- `closure::part::await_between` meets its contract. The loop's invariant: the flags below `i` are set, the others are
-- not.
use Rattle.closure.proofs.FlagsSet.{Setting}
use Rattle.marking.specs.Parts.{pending_words}
use Rattle.closure.specs.Parts.{is_first}
use lib.ListN.{get_or}
use Rattle.closure.proofs.part.await_between.Given as goal

abbrev pub invariant-loop-i : goal.invariant-loop-i
invariant-loop-i l =
    Setting (λ j. is_first l.z l.low l.high (get_or l.marks j 0) j) pending_words l.words l.i
