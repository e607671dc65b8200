-- `callgraph::graph::rank` meets its contract. The loop's invariant: `n` is the count of the routines below `g`.
use Rattle.callgraph.specs.Parts.{rank_below}
use Prim.Native.Nat.{◌≤◌}
use mathlib.Core.Path.{◌≡◌}
use Rattle.callgraph.proofs.graph.rank.Given as goal

abbrev pub invariant-loop-g : goal.invariant-loop-g
invariant-loop-g l = (l.n ≡ rank_below l.leads l.f l.g) × (l.n ≤ l.g)
