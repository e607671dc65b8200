use mathlib.Core.Path.{◌≡◌, ◌∙◌}
use lib.ListN.{length}
use borrow.Author.Rules.{rules}
use Rattle.program.specs.Sizes.{max_edges}
use Rattle.edit.proofs.EditRefusals.{refusal-by, full_table}
use Rattle.edit.proofs.judge.edit_refusal.Goals as goal
use Rattle.edit.proofs.judge.edit_refusal.Goals.{Start}

size : (z : Start) → length z.args.t.keys ≡ max_edges
size z = search rules

pub returns : goal.returns
returns c =
    let t = c.args.t in
    let old = rw c.old_step.ensures at c.has_step-old.ensures in
    let new = rw c.new_step.ensures at c.has_step-new.ensures in
    c.refusal_by.ensures ∙ rw (old, new, full_table t.count t.keys (size (goal.at.returns c).Start)) (refusal-by c.args.e _)
