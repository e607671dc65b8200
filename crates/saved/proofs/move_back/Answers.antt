-- `saved::move_back` meets its contract.
use mathlib.Core.Path.{◌≡◌, sym, ap, subst, ◌∙◌}
use mathlib.Core.List.{List}
use Prim.Native.Nat.{ℕ}
use lib.ListN.{length}
use Rattle.program.specs.Decoded.{program_of}
use Rattle.analysis.specs.Answers.{same}
use Rattle.saved.specs.Saved.{saved_text, text_of}
use Rattle.saved.specs.Answers.{back}
use Rattle.saved.specs.Parts.{Wrote}
use Rattle.saved.proofs.OldSizes.{old_numbers}
use Rattle.saved.proofs.FramesWritten.{old_long}
use Rattle.saved.proofs.MovesAnswered.{foreign_refused, own_moved}
use Rattle.saved.proofs.move_back.Goals as goal
use Rattle.saved.proofs.move_back.Goals.{After-is_text_of}

-- the text is compared with the program's own
compared : (s : After-is_text_of) → s.is_text_of.result ≡ same s.args.frames.now (saved_text (program_of s.args.p))
compared s = s.is_text_of.ensures ∙ ap (λ (l : List ℕ). same s.args.frames.now (text_of l)) s.analyze_old.ensures

pub analyze_old-requires : goal.analyze_old-requires
analyze_old-requires c =
    (c.requires.0, c.requires.1, sym old_numbers)

pub is_text_of-requires : goal.is_text_of-requires
is_text_of-requires c =
    ap length c.analyze_old.ensures ∙ old_long (program_of c.args.p) ∙ sym old_numbers

pub returns-then-not-is_text_of : goal.returns-then-not-is_text_of
returns-then-not-is_text_of c =
    let z = c.args in
    let s = compared (goal.at.returns-then-not-is_text_of c).After-is_text_of in
    rw c.into.ensures (foreign_refused back (program_of z.p) z.frames.now z.output.now (sym s ∙ c.if-not-is_text_of.true), c.clear.ensures)

pub returns : goal.returns
returns c =
    let z = c.args in (
      own_moved back (program_of z.p) z.frames.now z.output.now (sym (compared (goal.at.returns c).After-is_text_of) ∙ c.if-not-is_text_of.false)
          (subst (λ (l : List ℕ). Wrote l z.output.now c.write_marks.new.output c.write_marks.result) c.analyze_old.ensures c.write_marks.ensures),
      c.clear.ensures,
    )
