use Rattle.program.specs.Sizes.{max_edges}
use Rattle.program.specs.Decoded.{program_of}
use Rattle.base.proofs.SetFlags.{none_on}
use Rattle.callgraph.specs.Parts.{leads_size}
use Rattle.callgraph.proofs.FlagsClosed.{growing_start, growing_turn, growing_less}
use Rattle.callgraph.proofs.CallsByKey.{KeysOf, keys_of, keys_alone}
use Rattle.callgraph.proofs.LeadsFlagged.{edges_obey, graph_flagged}
use borrow.Author.Rules.{rules}
use mathlib.Core.Path.{◌≡◌, refl, ◌∙◌}
use lib.ListN.{length, take}
use Rattle.callgraph.proofs.graph.call_graph.Goals as goal
use Rattle.callgraph.proofs.graph.call_graph.Goals.{After-in_use}

-- the keys that are gone through are those of the program
used : (c : After-in_use) → let keys = take c.in_use.result c.args.p.edges.keys in
    KeysOf (program_of c.args.p) keys (length keys)
used c =
    let room : length c.args.p.edges.keys ≡ max_edges = search rules in
    keys_alone (keys_of c.args.p c.requires room c.in_use.ensures)

pub loop-more-init : goal.loop-more-init
loop-more-init c = (refl, λ p k. growing_start refl (λ i x. none_on leads_size x))

pub loop-more-smaller : goal.loop-more-smaller
loop-more-smaller c =
    let k = used (goal.at.loop-more-smaller c).After-in_use in
    let e = c.lead_further-more.ensures in
    growing_less (c.loop-more.invariant.1 _ k) (edges_obey k) c.loop-more-test.true e.0 e.1

pub loop-more-preserved : goal.loop-more-preserved
loop-more-preserved c =
    let e = c.lead_further-more.ensures in
    let g = c.loop-more.invariant in
    (c.lead_further-more.auto.leads ∙ g.0, λ p k. growing_turn (g.1 p k) (edges_obey k) e.0 e.1)

pub returns : goal.returns
returns c =
    let k = used (goal.at.returns c).After-in_use in
    graph_flagged k c.loop-more-test.false (c.loop-more.invariant.1 _ k)
