use mathlib.Core.Path.{◌≡◌, ◌∙◌}
use lib.ListN.{length}
use borrow.Author.Rules.{rules}
use Rattle.std.proofs.Common.{arith}
use Rattle.std.proofs.lemmas.Grind.{common_steps}
use Rattle.program.specs.Sizes.{max_edges}
use Rattle.edit.proofs.EditRefusals.{full_table}
use Rattle.exchange_text.proofs.FoundKept.{found_parts}
use Rattle.exchange_text.proofs.scan.after_line.Goals as goal
use Rattle.exchange_text.proofs.scan.after_line.Goals.{Start}

size : (z : Start) → length z.args.s.edges.keys ≡ max_edges
size z = search rules

pub returns : goal.returns
returns c =
    let t = c.args.s.edges in
    let full = full_table t.count t.keys (size (goal.at.returns c).Start) in
    found_parts _ (c.key_of.ensures ∙ rw c.kind_of.ensures) (grind (arith, common_steps)) (grind (arith, common_steps)) (grind (arith, common_steps, full))
    (c.add_edge.ensures ∙ rw c.edge_in.ensures)
