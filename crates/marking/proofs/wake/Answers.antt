-- `marking::wake` meets its contract.
use native.Mathlib.Omega.{arith}
use Rattle.marking.proofs.StepsMark.{wake_marked, wake_unmarked, wake_out, set_lowers}
use Rattle.marking.proofs.wake.Goals as goal
use Rattle.marking.proofs.wake.Goals.{
  else-at-marks-via-then-at-marks+else-marks-at-ne0,
  else-at-marks-via-else-at-marks,
}

pub returns-then-marks-at-ne0 : goal.returns-then-marks-at-ne0
returns-then-marks-at-ne0 c =
    let a = c.args in
    let f = c.set_at.ensures in
    let w = a.pending.now in
    (wake_marked a.marks.now w a.at c.if-marks-at-ne0.true f, set_lowers w _ a.at a.low _ f (omega arith) (omega arith))

pub returns-else-at-marks : goal.returns-else-at-marks
returns-else-at-marks c =
    let a = c.args in
    let m = a.marks.now in
    let w = a.pending.now in (
      elim c.else-at-marks.branch [
        | else-at-marks-via-then-at-marks+else-marks-at-ne0 b ↦ wake_unmarked m w a.at b.if-marks-at-ne0.false
        | else-at-marks-via-else-at-marks b ↦ wake_out m w a.at b.if-at-marks.false
      ],
      λ h. h,
    )
