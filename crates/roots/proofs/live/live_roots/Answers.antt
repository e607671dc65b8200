use Rattle.program.specs.Sizes.{max_edges}
use Rattle.program.specs.Decoded.{program_of}
use Rattle.program.proofs.ProgramRanged.{ranged}
use Rattle.callgraph.proofs.FlagsClosed.{growing_turn, growing_less}
use Rattle.callgraph.proofs.CallsByKey.{keys_of, keys_alone}
use Rattle.roots.proofs.RootsOccur.{Started, started, live_obeys, live_start, live_flagged}
use borrow.Author.Rules.{rules}
use mathlib.Core.Path.{◌≡◌, ◌∙◌}
use lib.ListN.{length, take}
use Rattle.roots.proofs.live.live_roots.Goals as goal
use Rattle.roots.proofs.live.live_roots.Goals.{After-roots_of_main}

-- the flags at the start, and the keys that are gone through, are those of the program
begins : (c : After-roots_of_main) → let keys = take c.in_use.result c.args.p.edges.keys in
    Started (program_of c.args.p) keys (length keys) c.next_states-table.result.sets c.roots_of_main.new.live
begins c =
    let room : length c.args.p.edges.keys ≡ max_edges = search rules in
    let k = keys_alone (keys_of c.args.p c.requires.0 room c.in_use.ensures) in
    started c.args.p k c.next_states-table.ensures c.roots_of_main.ensures.0 c.roots_of_main.ensures.1

pub next_states-table-requires : goal.next_states-table-requires
next_states-table-requires c = ranged (program_of c.args.p) c.requires.0

pub loop-more-init : goal.loop-more-init
loop-more-init c =
    (c.roots_of_main.auto.live, λ U A p zr b. live_start _ U A zr b c.args.marks.now)

pub loop-more-smaller : goal.loop-more-smaller
loop-more-smaller c =
    let b = begins (goal.at.loop-more-smaller c).After-roots_of_main in
    let e = c.roots_further-more.ensures in
    let w = c.requires.1 in
    growing_less (c.loop-more.invariant.1 w.usable w.admitted _ w.ranged b)
    (live_obeys _ w.usable w.admitted w.ranged b c.args.marks.now) c.loop-more-test.true e.0 e.1

pub loop-more-preserved : goal.loop-more-preserved
loop-more-preserved c =
    let inv = c.loop-more.invariant in
    let e = c.roots_further-more.ensures in (
      c.roots_further-more.auto.live ∙ inv.0,
      λ U A p zr b. growing_turn (inv.1 U A p zr b) (live_obeys _ U A zr b _) e.0 e.1,
    )

pub returns : goal.returns
returns c =
    let b = begins (goal.at.returns c).After-roots_of_main in
    let w = c.requires.1 in
    live_flagged _ w.usable w.admitted w.ranged b c.args.marks.now c.loop-more-test.false
    (c.loop-more.invariant.1 w.usable w.admitted _ w.ranged b)
