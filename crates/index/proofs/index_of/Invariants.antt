-- `index::index_of` meets its contract. The loop's invariant: the index is that of the edges from `i` on.
use Rattle.index.proofs.EdgesIndexed.{Indexing}
use Rattle.index.proofs.index_of.Given as goal

abbrev pub invariant-loop-i : goal.invariant-loop-i
invariant-loop-i l = Indexing l.keys l.i l.places
