-- `edit_turn::edit_held` meets its contract.
use borrow.Author.Rules.{rules}
use mathlib.Core.Path.{◌≡◌, sym, ◌∙◌}
use native.Mathlib.Omega.{arith}
use lib.ListN.{length}
use Rattle.transcript.specs.Transcript.{no_output}
use Rattle.transcript.proofs.AnswersPrinted.{edited, held_front, zeros_counted}
use Rattle.edit_turn.proofs.edit_held.Goals as goal
use Rattle.edit_turn.proofs.edit_held.Goals.{Start}

few : (z : Start) → length z.args.held.marks ≡ 16384
few z = search rules

pub slice_bounds-work-end : goal.slice_bounds-work-end
slice_bounds-work-end c = omega (arith, c.within-size.ensures.inside, few (goal.at.slice_bounds-work-end c).Start)

pub slice_bounds-repair_with-end-4 : goal.slice_bounds-repair_with-end-4
slice_bounds-repair_with-end-4 c =
    zeros_counted _ (omega (arith, c.within-size.ensures.inside, few (goal.at.slice_bounds-repair_with-end-4 c).Start))

pub returns : goal.returns
unfolding no_output
returns c =
    let a = c.args in
    let w = c.within-size.ensures in
    edited a.line.now a.held c.hold_next-next.result c.within-used.ensures w (omega (arith, w.inside, few (goal.at.returns c).Start))
    c.repair_with-answer.ensures (c.hold_next-next.ensures ∙ held_front _ _ (c.repair_with-answer.auto.marks ∙ sym w.counted))
