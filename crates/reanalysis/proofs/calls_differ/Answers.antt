-- `reanalysis::calls_differ` meets its contract.
use native.Mathlib.Omega.{arith}
use mathlib.Core.Path.{◌≡◌}
use Prim.Native.Nat.{◌≤◌}
use lib.ListN.{length}
use borrow.Author.Rules.{rules}
use Rattle.program.specs.Sizes.{max_edges}
use Rattle.callgraph.proofs.CallsByKey.{keys_of}
use Rattle.reanalysis.proofs.ReanalysisDecided.{
  differing_call,
  call_differing,
  front_differing,
  differing_front,
  says_by,
}
use Rattle.reanalysis.proofs.calls_differ.Goals as goal
use Rattle.reanalysis.proofs.calls_differ.Goals.{Start}

room : (c : Start) → length c.args.p.edges.keys ≡ max_edges
room c = search rules

pub returns : goal.returns
returns c =
    let r = room (goal.at.returns c).Start in
    let k = keys_of c.args.p c.requires.0 r c.in_use-count.ensures in
    let h : c.in_use-count.result ≤ length c.args.p.edges.keys = omega (arith, r, c.in_use-count.ensures) in
    says_by
    (λ d. differing_call k c.requires.1.ranged (front_differing h d))
    (λ d. differing_front h (call_differing k c.requires.1.ranged d)) c.some_differ.ensures
