use mathlib.Core.Logic.{inl, inr}
use Rattle.worklist.proofs.LoopFollows.{going_turn, going_end}
use Rattle.worklist.proofs.pending.follow_pending.Goals as goal

pub loop-at-preserved : goal.loop-at-preserved
loop-at-preserved c =
    let v = c.loop-at.invariant in
    let t = c.take-low in (
      v.0,
      going_turn _ _ v.1 c.loop-at-test.true c.if-iterations-limit.true t.ensures.taken
          t.auto.marks t.auto.pending t.auto.known c.first_set-at-in-loop-at.ensures,
    )

pub returns-else-iterations-limit : goal.returns-else-iterations-limit
returns-else-iterations-limit c = going_end _ _ c.loop-at.invariant.1 (inr c.if-iterations-limit.false)

pub returns-after-loop-at : goal.returns-after-loop-at
returns-after-loop-at c = going_end _ _ c.loop-at.invariant.1 (inl c.loop-at-test.false)
