use mathlib.Core.Path.{◌≡◌}
use lib.ListN.{length}
use borrow.Author.Rules.{rules}
use Rattle.automaton.specs.Sizes.{max_states}
use Rattle.progress.proofs.ListsKept.{room_for}
use Rattle.progress.proofs.add_state.Goals as goal

pub add_entry-s-requires : goal.add_entry-s-requires
add_entry-s-requires c =
    let size : length c.args.s.now.list ≡ max_states = search rules in
    room_for c.args.s.now.count c.args.s.now.list size c.requires
