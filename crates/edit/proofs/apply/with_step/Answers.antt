use mathlib.Core.Path.{◌≡◌, ap, ◌∙◌}
use mathlib.Core.List.{map}
use lib.ListN.{length}
use borrow.Author.Rules.{rules}
use Rattle.base.proofs.EntriesInUse.{unfilled, as_many}
use Rattle.program.specs.Sizes.{max_edges}
use Rattle.program.specs.Decoded.{edge_keys_of, edge_of, program_of}
use Rattle.edit.specs.Editing.{with_edges}
use Rattle.edit.proofs.KeysOfEdges.{edges_inserted}
use Rattle.edit.proofs.apply.with_step.Goals as goal
use Rattle.edit.proofs.apply.with_step.Goals.{Start}

size : (z : Start) → length z.args.p.edges.keys ≡ max_edges
size z = search rules

pub insert_key-count-requires : goal.insert_key-count-requires
insert_key-count-requires c =
    let t = c.args.p.edges in
    unfilled t.count t.keys (rw (size (goal.at.insert_key-count-requires c).Start) (as_many edge_of (edge_keys_of t) max_edges c.requires.p_len_bound))

pub returns : goal.returns
returns c =
    let p = c.args.p in
    c.with_edges.ensures
    ∙ ap (with_edges (program_of p))
    (ap (map edge_of) c.insert_key-count.ensures.are ∙ edges_inserted c.step_key.result (edge_keys_of p.edges) ∙ rw c.step_key.ensures)
