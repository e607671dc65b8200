use mathlib.Core.Path.{◌≡◌}
use lib.ListN.{length}
use borrow.Author.Rules.{rules}
use Rattle.program.specs.Sizes.{max_routines}
use Rattle.progress.proofs.ListsKept.{room_for}
use Rattle.progress.proofs.add_node.Goals as goal

pub add_entry-n-requires : goal.add_entry-n-requires
add_entry-n-requires c =
    let size : length c.args.n.now.list ≡ max_routines = search rules in
    room_for c.args.n.now.count c.args.n.now.list size c.requires
