use mathlib.Core.Path.{◌≡◌}
use lib.ListN.{length}
use borrow.Author.Rules.{rules}
use Rattle.rows.specs.Rows.{max_rows}
use Rattle.progress.proofs.ListsKept.{room_for}
use Rattle.progress.proofs.add_row.Goals as goal

pub add_entry-t-requires : goal.add_entry-t-requires
add_entry-t-requires c =
    let size : length c.args.t.now.keys ≡ max_rows = search rules in
    room_for c.args.t.now.count c.args.t.now.keys size c.requires
