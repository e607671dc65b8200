-- `automaton::next::listed_moves` meets its contract. The loop's invariant: each flag, with the keys from the next on, decides.
use Rattle.automaton.proofs.MovesListed.{Allowed}
use Rattle.automaton.proofs.next.listed_moves.Given as goal

abbrev pub invariant-loop-key : goal.invariant-loop-key
invariant-loop-key l = Allowed l.key-items l.key-index l.sets
