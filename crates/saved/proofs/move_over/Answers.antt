-- `saved::move_over` meets its contract.
use mathlib.Core.Path.{◌≡◌, sym, ap, subst, ◌∙◌}
use mathlib.Core.List.{List}
use Prim.Native.Nat.{ℕ}
use lib.Pointwise.{bytes_decides}
use borrow.Author.Tests.{not-true, not-false}
use Rattle.program.specs.Decoded.{program_of}
use Rattle.analysis.specs.Answers.{same}
use Rattle.analysis.proofs.AnswersByChecks.{same_self, same_decides}
use Rattle.saved.specs.Saved.{old_marks, text_of}
use Rattle.saved.specs.Answers.{over}
use Rattle.saved.specs.Parts.{Wrote}
use Rattle.saved.proofs.OldSizes.{old_numbers}
use Rattle.saved.proofs.MovesAnswered.{foreign_refused, own_moved}
use Rattle.saved.proofs.move_over.Goals as goal
use Rattle.saved.proofs.move_over.Goals.{After-ne}

pub analyze_old-requires : goal.analyze_old-requires
analyze_old-requires c =
    (c.requires.0, c.requires.1, sym old_numbers)

-- the bytes are compared with the program's own
own : (c : After-ne) → c.as_slice.result.now ≡ old_marks (program_of c.args.p)
own c = c.as_slice.ensures ∙ c.analyze_old.ensures

pub returns-then-ne : goal.returns-then-ne
returns-then-ne c =
    let z = c.args in
    let s = same_decides _ _ _ (bytes_decides z.marks.now _) ∙ ap (same z.marks.now) (own (goal.at.returns-then-ne c).After-ne) in
    rw c.into.ensures (foreign_refused over (program_of z.p) z.marks.now z.output.now (sym s ∙ not-true _ (sym c.ne.ensures ∙ c.if-ne.true)), c.clear.ensures)

pub returns : goal.returns
returns c =
    let z = c.args in
    let p = program_of z.p in
    let e = (bytes_decides z.marks.now _).0 (not-false _ (sym c.ne.ensures ∙ c.if-ne.false)) ∙ own (goal.at.returns c).After-ne in (
      own_moved over p z.marks.now z.output.now (ap (λ (l : List ℕ). same l (old_marks p)) e ∙ same_self (old_marks p))
          (subst (λ (l : List ℕ). Wrote (text_of l) z.output.now c.write_frames.new.output c.write_frames.result) e c.write_frames.ensures),
      c.clear.ensures,
    )
