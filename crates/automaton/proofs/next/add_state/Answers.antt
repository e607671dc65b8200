-- `automaton::next::add_state` meets its contract: past the end a store changes nothing.
use mathlib.Core.Path.{sym}
use lib.Seq.{set_out}
use Rattle.automaton.proofs.next.add_state.Goals as goal

pub returns-then-at-sets : goal.returns-then-at-sets
returns-then-at-sets c = rw c.with_state.ensures

pub returns-else-at-sets : goal.returns-else-at-sets
returns-else-at-sets c = sym (set_out _ _ _ c.if-at-sets.false)
