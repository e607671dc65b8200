use Rattle.reach.specs.Sizes.{summaries}
use Rattle.reach.proofs.ProgramInSizes.{summaries_few}
use Rattle.marking.specs.Parts.{known_words}
use Rattle.closure.proofs.FlagsSet.{setting_none, setting_here, setting_other, setting_first}
use borrow.Author.Tests.{eq-eqb, ne_eqb}
use native.Mathlib.Omega.{arith}
use mathlib.Core.Bool.{not}
use mathlib.Core.Path.{ap}
use Rattle.closure.proofs.exits.summaries_of.Goals.{then-marks-exit_at-ne0, else-marks-exit_at-ne0}
use Rattle.closure.proofs.exits.summaries_of.Goals as goal

pub loop-i-init : goal.loop-i-init
loop-i-init c = setting_none _ known_words 0 (λ j h. absurd (omega arith))

pub loop-i-preserved : goal.loop-i-preserved
loop-i-preserved c =
    let few = summaries_few c.requires.1 in
    let count = c.summary_count-i-end.ensures.0 in
    let e = c.exit_at.ensures.0 in
    elim c.if-marks-exit_at-ne0.branch [
      | then-marks-exit_at-ne0 w ↦
          let marked = ap not (ne_eqb _ _ (rw e at w.if-marks-exit_at-ne0.true)) in
          rw w.words-is
          (setting_here c.loop-i.invariant _ (omega (arith, few, count)) marked w.set_at.ensures w.set_at.auto.words)
      | else-marks-exit_at-ne0 w ↦
          let unmarked = ap not (eq-eqb _ _ (rw e at w.if-marks-exit_at-ne0.false)) in
          rw w.words-is (setting_other c.loop-i.invariant unmarked)
    ]

pub returns : goal.returns
returns c =
    let few = summaries_few c.requires.1 in
    let count = c.summary_count-i-end.ensures.0 in
    record { flags = setting_first (summaries c.args.z) (omega (arith, count)) few c.loop-i.invariant }
