-- `closure::exits::summaries_of` meets its contract. The loop's invariant: the flags below `i` are those of the exits.
use Rattle.base.specs.Flags.{is_set}
use Rattle.reach.specs.Configurations.{exit_at}
use Rattle.marking.specs.Parts.{known_words}
use Rattle.closure.proofs.FlagsSet.{Setting}
use Rattle.closure.proofs.exits.summaries_of.Given as goal

abbrev pub invariant-loop-i : goal.invariant-loop-i
invariant-loop-i l = Setting (λ j. is_set l.marks (exit_at l.z j)) known_words l.words l.i
