-- `support::supported` meets its contract. Both loops' invariant: nothing is found yet; the outer one's: no key so far
-- supports; the inner one's: the states from `x` on decide for the edge.
use Rattle.std.proofs.Common.{◌≡◌, ℕ, ◌<◌, get_or, false}
use Rattle.base.proofs.SearchesAsk.{Trying}
use Rattle.program.specs.Decoded.{edge_of}
use Rattle.kept.specs.Parts.{move_kept}
use Rattle.support.specs.Parts.{edge_supports}
use Rattle.support.proofs.supported.Given as goal

abbrev pub invariant-loop-x : goal.invariant-loop-x
invariant-loop-x l = record {
  none_yet : l.found ≡ false;
  asked : Trying (λ j. move_kept l.next l.kept l.base j l.e.label l.c.state) l.end l.x;
}

abbrev pub invariant-scan : goal.invariant-scan
invariant-scan l = record {
  none_yet : l.found ≡ false;
  asked :
      (k : ℕ) → k < l.key-index
      → edge_supports l.z l.next l.kept l.c.routine l.c.node l.c.root l.c.state (edge_of (get_or l.keys k 0)) ≡ false;
}
