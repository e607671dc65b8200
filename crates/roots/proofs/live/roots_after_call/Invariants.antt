-- `roots::live::roots_after_call` meets its contract. The loop's invariant: what the states from `s` on add gives the
-- whole.
use Rattle.automaton.specs.Sizes.{max_states}
use Rattle.roots.specs.Parts.{copy_root}
use Rattle.callgraph.proofs.FlagsClosed.{Turning}
use Rattle.roots.proofs.live.roots_after_call.Given as goal

abbrev pub invariant-loop-s : goal.invariant-loop-s
invariant-loop-s l = Turning (copy_root l.set l.from l.g) max_states l.initial.live l.s l.live
