-- `successors::follow_label` meets its contract.
use Rattle.successors.proofs.EdgesFollowed.{label_call, label_past, label_action}
use mathlib.Core.Path.{sym, ◌∙◌}
use Rattle.successors.proofs.follow_label.Goals as goal

pub returns-then-g : goal.returns-then-g
returns-then-g c =
    let e = c.follow_call.ensures in (
      label_call _ _ _ _ _ _ (sym c.is_call.ensures ∙ c.if-is_call.true)
          (rw c.called_by-g.ensures at c.if-g.true) (rw c.called_by-g.ensures at e.0),
      e.1,
    )

pub returns-else-g : goal.returns-else-g
returns-else-g c = (
  label_past _ _ _ _ _ _ (sym c.is_call.ensures ∙ c.if-is_call.true)
      (rw c.called_by-g.ensures at c.if-g.false),
  λ h. h,
)

pub returns-else-is_call : goal.returns-else-is_call
returns-else-is_call c =
    let e = c.mark_each.ensures in (
      label_action _ _ _ _ _ _ (sym c.is_call.ensures ∙ c.if-is_call.false) (rw c.next_after-results.ensures at e.0),
      e.1,
    )
