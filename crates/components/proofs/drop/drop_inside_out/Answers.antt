-- `components::drop::drop_inside_out` meets its contract.
use Rattle.reach.proofs.MarksCopied.{cleared_is}
use Rattle.components.proofs.TurnsTaken.{fresh_length, turning_start, turning_marks, turning_reanalyzed}
use Rattle.components.proofs.drop.drop_inside_out.Goals as goal

pub old_roots-entries-requires : goal.old_roots-entries-requires
old_roots-entries-requires c = let z = c.requires.drop_of in (z.1.sized.usable, z.1.sized.admitted, fresh_length z.1.sized.usable z.0 z.2)

pub summaries_of-exits-requires : goal.summaries_of-exits-requires
summaries_of-exits-requires c =
    let z = c.requires.drop_of in
    (z.1.sized.usable, z.1.sized.admitted, fresh_length z.1.sized.usable z.0 z.2)

pub visit_all-end-requires : goal.visit_all-end-requires
visit_all-end-requires c =
    let z = c.requires in
    (z.drop_of.0, turning_start z.drop_of.1 z.drop_of.2 c.call_graph-graph.ensures c.old_roots-entries.ensures c.summaries_of-exits.ensures)

pub cut_to_live-requires : goal.cut_to_live-requires
cut_to_live-requires c =
    let z = c.requires.drop_of in
    let t = turning_start z.1 z.2 c.call_graph-graph.ensures c.old_roots-entries.ensures c.summaries_of-exits.ensures in
    (z.1.well_formed, z.1.sized, (c.visit_all-end.ensures z.0 t).working.marks-length)

pub returns : goal.returns
returns c =
    λ old h e.
    let t = c.visit_all-end.ensures old (turning_start h e c.call_graph-graph.ensures c.old_roots-entries.ensures c.summaries_of-exits.ensures) in
    (turning_marks t c.cut_to_live.ensures, cleared_is c.args.z c.clear.ensures c.requires.work_len, turning_reanalyzed t)
