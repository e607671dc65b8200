use mathlib.Core.Path.{◌≡◌, sym, ◌∙◌}
use Prim.Native.Nat.{ℕ, ◌-◌}
use native.Mathlib.Omega.{arith}
use mathlib.Core.List.{List}
use lib.ListN.{length, take, drop, length-drop}
use lib.Seq.{take_all}
use Rattle.text.specs.Hex.{hex_line}
use Rattle.program.specs.Frames.{end_frame}
use Rattle.reach.proofs.MarksShown.{count_small}
use Rattle.analysis.specs.Answers.{same}
use Rattle.saved.proofs.OldSizes.{old_numbers}
use Rattle.saved.proofs.TextCompared.{walk_start, walk_past, walk_on, walk_stops, walk_end}
use Rattle.saved.proofs.mark_frames.is_text_of.Goals.{then-mark-ne0+else-not-has_frame, else-mark-ne0}
use Rattle.saved.proofs.mark_frames.is_text_of.Goals as goal

pub loop-i-init : goal.loop-i-init
loop-i-init c = walk_start _ _

pub returns-then-not-has_frame : goal.returns-then-not-has_frame
returns-then-not-has_frame c =
    let found = sym c.has_frame.ensures ∙ c.if-not-has_frame.true in
    sym (walk_stops c.loop-i.invariant (omega arith) c.if-mark-ne0.true found)

pub overflow_add-at : goal.overflow_add-at
overflow_add-at c =
    let found = sym c.has_frame.ensures ∙ c.if-not-has_frame.false in
    let w = walk_on c.loop-i.invariant (omega arith) c.if-mark-ne0.true found in
    omega (arith, w.inside)

pub loop-i-preserved : goal.loop-i-preserved
loop-i-preserved c =
    elim c.if-mark-ne0.branch [
      | then-mark-ne0+else-not-has_frame w ↦
          let found = sym w.has_frame.ensures ∙ w.if-not-has_frame.false in
          rw w.at-is (walk_on c.loop-i.invariant (omega arith) w.if-mark-ne0.true found)
      | else-mark-ne0 w ↦ rw w.at-is (walk_past c.loop-i.invariant (omega arith) w.if-mark-ne0.false)
    ]

pub end_line-requires : goal.end_line-requires
end_line-requires c =
    omega (arith, c.count_set.ensures, count_small c.args.marks.now, c.requires, old_numbers)

pub returns : goal.returns
returns c =
    let s = c.args.s.now in
    let at = c.loop-i.at in
    let rest : List ℕ = drop at s in
    let whole : take (length s - at) rest ≡ rest = take_all (length s - at) rest (omega (arith, length-drop at s)) in
    let end = c.end_line.ensures in
    c.is_line.ensures ∙ (λ j. same (whole j) (hex_line (take (end j).count (end j).numbers)))
    ∙ (λ j. same rest (hex_line (end_frame (c.count_set.ensures j))))
    ∙ sym (walk_end c.loop-i.invariant c.loop-i-test.false)
