-- `rows::row_count` meets its contract.
use mathlib.Core.Path.{◌≡◌, sym, ◌∙◌}
use lib.ListN.{length, length-map}
use borrow.Author.Rules.{rules}
use Rattle.base.proofs.EntriesInUse.{in_use_length}
use Rattle.rows.specs.Rows.{max_rows}
use Rattle.rows.specs.Decoded.{row_of, row_keys_of}
use Rattle.rows.proofs.row_count.Goals as goal

pub returns : goal.returns
returns c =
    let t = c.args.rows in
    let size : length t.keys ≡ max_rows = search rules in
    in_use_length t.count t.keys size c.in_use.ensures ∙ sym (length-map (row_keys_of t) row_of)
