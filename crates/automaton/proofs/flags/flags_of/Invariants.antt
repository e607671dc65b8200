-- `automaton::flags::flags_of` meets its contract. The loop's invariant: each flag, with the states from the next on, decides.
use Rattle.automaton.proofs.TablesFilled.{Members}
use Rattle.automaton.proofs.flags.flags_of.Given as goal

abbrev pub invariant-loop-state : goal.invariant-loop-state
invariant-loop-state l = Members l.state-items l.state-index l.flags
