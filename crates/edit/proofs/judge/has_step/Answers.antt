use mathlib.Core.Path.{◌≡◌, ap, ◌∙◌}
use lib.ListN.{length}
use borrow.Author.Rules.{rules}
use Rattle.program.specs.Sizes.{max_edges}
use Rattle.program.specs.Decoded.{edge_keys_of}
use Rattle.tables.specs.Keys.{member}
use Rattle.base.proofs.EntriesInUse.{in_use_same}
use Rattle.edit.proofs.KeysOfEdges.{edges_member}
use Rattle.edit.proofs.judge.has_step.Goals as goal

pub returns : goal.returns
returns c =
    let t = c.args.t in
    let key = c.step_key.result in
    let room : length t.keys ≡ max_edges = search rules in
    c.has_key.ensures ∙ ap (member key) (in_use_same t.count t.keys room c.in_use.ensures)
    ∙ edges_member key (edge_keys_of t) ∙ rw c.step_key.ensures
