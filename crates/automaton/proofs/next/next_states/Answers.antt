-- `automaton::next::next_states` meets its contract.
use mathlib.Core.Path.{refl}
use Rattle.automaton.specs.Decoded.{automaton_of}
use Rattle.automaton.proofs.next.next_states.Goals as goal

pub returns : goal.returns
returns c =
    c.stay_unheard.ensures (automaton_of c.args.r) refl refl c.requires c.heard_labels-labels.ensures c.listed_moves-moves.ensures
