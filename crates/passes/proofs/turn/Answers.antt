-- `passes::turn` meets its contract: the part of the table that is handed on has the edges of routine `f`.
use Rattle.program.specs.Sizes.{max_edges}
use Rattle.index.proofs.RoutinePart.{part_starts}
use Rattle.callgraph.proofs.RoutineSets.{true_member}
use Rattle.passes.proofs.RoutinePartOfTable.{routine_edges}
use Rattle.passes.proofs.RoundsClose.{no_turn, turn_followable, turn_shown}
use Rattle.reach.proofs.Numbers.{first_number, routine_fits}
use native.Mathlib.Omega.{arith}
use mathlib.Core.Path.{◌≡◌, sym, ◌∙◌}
use lib.ListN.{length}
use borrow.Author.Rules.{rules}
use Rattle.passes.proofs.turn.Goals as goal
use Rattle.passes.proofs.turn.Goals.{Start}

room : (c : Start) → length c.args.p.edges.keys ≡ max_edges
room c = search rules

pub returns-then-not-is_set : goal.returns-then-not-is_set
returns-then-not-is_set c = no_turn c.requires.ready.0 _ (sym c.is_set.ensures ∙ c.if-not-is_set.true)

pub slice_bounds-follow_part-count : goal.slice_bounds-follow_part-count
slice_bounds-follow_part-count c = part_starts c.first_of-from.ensures c.first_of-to.ensures

pub slice_bounds-follow_part-start : goal.slice_bounds-follow_part-start
slice_bounds-follow_part-start c =
    omega (arith, part_starts c.first_of-from.ensures c.first_of-to.ensures)

pub overflow_add-low : goal.overflow_add-low
overflow_add-low c =
    omega (arith, c.routine_span-span.ensures.1, c.number_of-low.ensures.1)

pub follow_part-requires : goal.follow_part-requires
follow_part-requires c =
    let z = c.args.z in
    let t = c.args.p.edges in
    let f = c.args.f in
    let ready = c.requires.ready in
    let size = room (goal.at.follow_part-requires c).Start in
    let up = ready.0.well_formed.edges_ascend in
    let e = routine_edges t.keys t.count size c.in_use.ensures c.first_of-from.ensures c.first_of-to.ensures up in
    let first = c.number_of-low.ensures.0 in
    let long = c.routine_span-span.ensures.0 in
    record {
      high_bound = omega (arith, routine_fits z f c.requires.f_lt_routines, first, first_number z f, long);
      followable = (_, turn_followable f first long ready.0 e ready.1);
    }

pub returns : goal.returns
returns c =
    let t = c.args.p.edges in
    let f = c.args.f in
    let ready = c.requires.ready in
    let size = room (goal.at.returns c).Start in
    let up = ready.0.well_formed.edges_ascend in
    let e = routine_edges t.keys t.count size c.in_use.ensures c.first_of-from.ensures c.first_of-to.ensures up in
    let may = turn_followable f c.number_of-low.ensures.0 c.routine_span-span.ensures.0 ready.0 e ready.1 in
    let member = true_member c.args.members.now f (sym c.is_set.ensures ∙ c.if-not-is_set.false) in
    turn_shown ready.0 _ member (c.follow_part.ensures _ may)
