use mathlib.Core.Path.{◌≡◌}
use lib.ListN.{length}
use borrow.Author.Rules.{rules}
use Rattle.automaton.specs.Sizes.{max_transitions}
use Rattle.progress.proofs.ListsKept.{room_for}
use Rattle.progress.proofs.add_transition.Goals as goal

pub add_entry-count-requires : goal.add_entry-count-requires
add_entry-count-requires c =
    let size : length c.args.t.keys ≡ max_transitions = search rules in
    room_for c.args.t.count c.args.t.keys size c.requires
