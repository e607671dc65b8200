use Rattle.closure.proofs.FlagsSet.{setting_here, setting_other}
use Rattle.closure.proofs.PartAwaited.{first_inside, await_start, await_end}
use native.Mathlib.Omega.{arith}
use mathlib.Core.Path.{sym, ◌∙◌}
use lib.ListN.{get_or}
use Rattle.closure.proofs.part.await_between.Goals.{then-is_first, else-is_first}
use Rattle.closure.proofs.part.await_between.Goals as goal

pub loop-i-init : goal.loop-i-init
loop-i-init c = let a = c.args in await_start a.z c.requires.0 a.low a.high a.marks.now

pub loop-i-preserved : goal.loop-i-preserved
loop-i-preserved c =
    let a = c.args in
    let i = c.loop-i.i in
    let s = c.loop-i.invariant in
    let f =
    first_inside a.z c.requires.0 a.low a.high (get_or a.marks.now i 0) i (omega arith) (omega arith)
    ∙ sym c.is_first.ensures
    in
    elim c.if-is_first.branch [
      | then-is_first w ↦
          rw w.words-is
          (setting_here s _ (omega (arith, c.requires.3, c.requires.1.product)) (f ∙ w.if-is_first.true)
          w.set_at.ensures w.set_at.auto.words)
      | else-is_first w ↦ rw w.words-is (setting_other s (f ∙ w.if-is_first.false))
    ]

pub returns : goal.returns
returns c =
    let a = c.args in
    await_end a.z c.requires.0 a.low a.high a.marks.now _ c.loop-i.invariant (omega arith)
