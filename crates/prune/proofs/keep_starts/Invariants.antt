-- `prune::keep_starts` meets its contract. The loop's invariant: the marked starts in a state below `q` are kept.
use Rattle.automaton.specs.Flags.{Starts}
use Rattle.program.specs.Program.{Program}
use Rattle.prune.specs.Parts.{Sound, Started}
use Rattle.prune.proofs.keep_starts.Given as goal

abbrev pub invariant-loop-q : goal.invariant-loop-q
invariant-loop-q l =
    (p : Program) → Starts p.automaton l.initial' → Sound l.z p l.marks l.initial.kept
    → Started l.z p l.marks l.kept l.q
