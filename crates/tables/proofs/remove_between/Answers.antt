use mathlib.Core.Path.{sym, ◌∙◌}
use native.Mathlib.Omega.{arith}
use Rattle.tables.proofs.TableChanged.{keep_start, keep_not, keep_one, keep_end}
use Rattle.tables.proofs.remove_between.Goals.{then-not-is_between, else-not-is_between}
use Rattle.tables.proofs.remove_between.Goals as goal

pub loop-i-init : goal.loop-i-init
loop-i-init c = keep_start _ _ _ _ c.in_use-used.ensures

pub loop-i-preserved : goal.loop-i-preserved
loop-i-preserved c =
    let told = sym c.is_between.ensures in
    let kept = c.loop-i.invariant in
    elim c.if-not-is_between.branch [
      | then-not-is_between w ↦
          rw (w.keys-is, w.kept-is) (keep_one kept (omega arith) (omega arith) (told ∙ w.if-not-is_between.true))
      | else-not-is_between w ↦
          rw (w.keys-is, w.kept-is) (keep_not kept (omega arith) (omega arith) (told ∙ w.if-not-is_between.false))
    ]

pub returns : goal.returns
returns c = keep_end c.loop-i.invariant (omega arith)
