-- `blocked::is_called` meets its contract. The loop's invariant: the edges from the next on decide.
use lib.ListN.{length, get_or}
use Rattle.program.specs.Decoded.{edge_of}
use Rattle.base.proofs.SearchesAsk.{Trying}
use Rattle.blocked.specs.Parts.{calls_with}
use Rattle.blocked.proofs.is_called.Given as goal

abbrev pub invariant-loop-key : goal.invariant-loop-key
invariant-loop-key l =
    Trying (λ j. calls_with l.z l.next l.marks l.g l.s (edge_of (get_or l.keys j 0))) (length l.keys) l.key-index
