-- `roots::live::live_roots` meets its contract. The loop's invariant: every flag that is set is a root that
-- occurs, and when a pass has set no more, the flags are closed. The measure: the flags that are not set.
use Rattle.program.specs.Program.{Program}
use Rattle.program.specs.Chosen.{Admitted}
use Rattle.reach.specs.Configurations.{Usable}
use Rattle.reach.specs.Ranged.{Ranged}
use Rattle.reach.specs.Sizes.{roots_size}
use Rattle.callgraph.proofs.FlagsClosed.{Growing, left}
use Rattle.roots.proofs.RootsOccur.{LiveAt, RootsRules, Started}
use mathlib.Core.Path.{◌≡◌}
use lib.ListN.{length}
use Rattle.roots.proofs.live.live_roots.Given as goal

abbrev pub invariant-loop-more : goal.invariant-loop-more
invariant-loop-more l =
    let count = length l.keys in
    (length l.flags ≡ roots_size)
    × ((U : Usable l.z) (A : Admitted l.z) (p : Program) → Ranged l.z p
    → Started p l.keys count l.next l.initial.flags
    → Growing roots_size (LiveAt l.z U A p l.marks) (RootsRules l.z U A l.marks l.next l.keys count)
    l.initial.flags l.flags l.more)

abbrev pub decreases-loop-more : goal.decreases-loop-more
decreases-loop-more l = left roots_size l.flags l.more
