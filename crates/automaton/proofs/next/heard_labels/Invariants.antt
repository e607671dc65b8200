-- `automaton::next::heard_labels` meets its contract. The loop's invariant: each flag, with the keys from the next on, decides.
use Rattle.automaton.proofs.TablesFilled.{Hearing}
use Rattle.automaton.proofs.next.heard_labels.Given as goal

abbrev pub invariant-loop-key : goal.invariant-loop-key
invariant-loop-key l = Hearing l.key-items l.key-index l.flags
