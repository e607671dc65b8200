-- `kept::move_kept` meets its contract.
use mathlib.Core.Path.{refl}
use Rattle.kept.specs.Parts.{move_kept}
use Rattle.kept.proofs.move_kept.Goals as goal

pub returns-then-is_set : goal.returns-then-is_set
unfolding move_kept
returns-then-is_set c = rw (← c.is_set.ensures, c.if-is_set.true) c.may_go.ensures

pub returns-else-is_set : goal.returns-else-is_set
unfolding move_kept
returns-else-is_set c = rw (← c.is_set.ensures, c.if-is_set.false) refl
