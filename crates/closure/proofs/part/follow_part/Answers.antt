-- `closure::part::follow_part` meets its contract: following starts from these marks, so it ends with what follows from them.
use Rattle.closure.proofs.PartAwaited.{few_edges, none_under, part_begun, part_shows}
use Rattle.marking.specs.Parts.{pending_words}
use lib.ListN.{length}
use mathlib.Core.Path.{◌≡◌}
use borrow.Author.Rules.{rules}
use Rattle.closure.proofs.part.follow_part.Goals as goal

pub index_of-edges-requires : goal.index_of-edges-requires
index_of-edges-requires c = few_edges c.args.z c.requires.followable.1

pub summaries_of-exits-requires : goal.summaries_of-exits-requires
summaries_of-exits-requires c =
    let r = c.requires.followable.1 in
    (r.sized.usable, r.sized.admitted, r.closed.marks-length)

pub await_between-awaited-requires : goal.await_between-awaited-requires
await_between-awaited-requires c =
    let r = c.requires.followable.1 in
    (r.sized.usable, r.sized.admitted, r.closed.marks-length, c.requires.high_bound)

pub follow_pending-iterations-requires : goal.follow_pending-iterations-requires
follow_pending-iterations-requires c =
    let o = c.await_between-awaited.type_inv in
    let pe = c.await_between-awaited.ensures in
    let a : length c.await_between-awaited.result.words ≡ pending_words = search (rules, o) in record { usable = (c.requires.followable.1.sized.usable, c.requires.followable.1.sized.admitted, a, none_under c.args.z c.requires.followable.1.sized.usable c.args.low c.args.high c.args.marks.now pe); begun = (_, part_begun c.args.z c.requires.followable.1.sized.usable c.requires.followable.1 c.index_of-edges.ensures c.summaries_of-exits.ensures pe) }

pub returns : goal.returns
returns c =
    let ix = c.index_of-edges.ensures in
    let kn = c.summaries_of-exits.ensures in
    let pe = c.await_between-awaited.ensures in
    let e = c.follow_pending-iterations.ensures in
    λ p r. part_shows c.args.z r.sized.usable r ix kn pe _ _ (rw c.enough_iterations-limit.ensures at (e p (part_begun c.args.z r.sized.usable r ix kn pe)))
