-- `writer::put::frame_count` meets its contract.
use mathlib.Core.Path.{◌≡◌}
use native.Mathlib.Omega.{arith}
use lib.ListN.{length, length-append, length-map, length-take}
use borrow.Author.Rules.{rules}
use Rattle.automaton.specs.Sizes.{max_states, max_transitions}
use Rattle.program.specs.Sizes.{max_routines, max_edges}
use Rattle.program.specs.Writing.{frames_with}
use Rattle.writer.proofs.FramesPut.{nodes_long}
use Rattle.writer.proofs.put.frame_count.Goals as goal

pub returns : goal.returns
unfolding frames_with
returns c =
    let p = c.args.p in
    let n : length p.nodes.list ≡ max_routines = search rules in
    let e : length p.edges.keys ≡ max_edges = search rules in
    let t : length p.automaton.transitions.keys ≡ max_transitions = search rules in
    let i : length p.automaton.initial.list ≡ max_states = search rules in
    let r : length p.automaton.rejecting.list ≡ max_states = search rules in
    (simp (length-append, length-map, nodes_long, length-take, n, e, t, i, r) (omega arith), omega arith)
