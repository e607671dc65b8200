-- `prune::is_next` meets its contract.
use mathlib.Core.Path.{sym, ◌∙◌}
use borrow.Author.Tests.{eq-eqb, ne_eqb}
use Rattle.reach.proofs.Numbers.{parts_routine, parts_node, parts_root, parts_state}
use Rattle.prune.specs.Parts.{keeps_at}
use native.Mathlib.Omega.{arith}
use Rattle.prune.proofs.is_next.Goals.{then-marks-i-ne0, else-marks-i-ne0}
use Rattle.prune.proofs.is_next.Goals as goal

pub has_support-requires : goal.has_support-requires
has_support-requires c =
    let parts = c.parts_of.ensures in
    (omega (arith, parts.in_range.routine, c.requires.usable.1.routines), rw (parts_routine parts) c.requires.usable.3)

pub returns-then-kept-i-eq0 : goal.returns-then-kept-i-eq0
unfolding keeps_at
returns-then-kept-i-eq0 c =
    let parts = c.parts_of.ensures in
    elim c.if-marks-i-ne0.branch [
      | then-marks-i-ne0 w ↦
          rw (
            ne_eqb _ _ w.if-marks-i-ne0.true,
            sym w.value-is ∙ c.if-kept-i-eq0.true,
            ← (parts_routine parts),
            ← (parts_node parts),
            ← (parts_root parts),
            ← (parts_state parts),
          ) c.has_support.ensures
      | else-marks-i-ne0 w ↦
          let x = rw (eq-eqb _ _ w.if-marks-i-ne0.false) at (sym w.value-is ∙ c.if-kept-i-eq0.true) in
          absurd (cc)
    ]

pub returns-else-kept-i-eq0 : goal.returns-else-kept-i-eq0
unfolding keeps_at
returns-else-kept-i-eq0 c =
    elim c.if-marks-i-ne0.branch [
      | then-marks-i-ne0 w ↦
          rw (c.if-kept-i-eq0.false, ne_eqb _ _ w.if-marks-i-ne0.true, sym w.value-is ∙ c.if-kept-i-eq0.false)
      | else-marks-i-ne0 w ↦ rw (c.if-kept-i-eq0.false, eq-eqb _ _ w.if-marks-i-ne0.false)
    ]
