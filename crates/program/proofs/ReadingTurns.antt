-- A turn of the reader's loop: the line at a position decides, or the rest does.
use mathlib.Core.Path.{◌≡◌, refl, ap, ◌∙◌}
use mathlib.Core.Bool.{true, false, cond}
use mathlib.Core.Option.{Option, some, none}
use mathlib.Core.List.{List, ◌∷◌}
use Prim.Native.Nat.{ℕ, suc, ◌+◌, ◌*◌, ◌≤◌, ◌<◌}
use native.Mathlib.Omega.{arith}
use lib.ListN.{length, drop, get_or, drop_of_length-le}
use lib.Seq.{drop-cons, drop-drop}
use borrow.Author.Tests.{lt-ltb}
use Rattle.text.specs.Lines.{lines, numbers_of, line_from, line_at}
use Rattle.text.proofs.LinesSplit.{after_line, lines_first, numbers_first, after_numbers}
use Rattle.program.specs.Reading.{Progress, refused, decided, judge_as, judge, after, finished, read_from}

-- a text that is not empty: its first line decides, or the rest does
pub turn : (s : Progress) (b : ℕ) (t : List ℕ)
    → read_from s (lines (b ∷ t)) ≡ decided s (judge s (line_from (numbers_of (b ∷ t)))) (read_from (after s (line_from (numbers_of (b ∷ t)))) (lines (after_line (b ∷ t))))
unfolding read_from
turn s b t = rw (lines_first b t, numbers_first (b ∷ t))

-- a line without a fault has numbers
pub has_numbers : (s : Progress) (m : Option (List ℕ)) → judge s (line_from m) ≡ 0 → (xs : List ℕ) × (m ≡ some xs)
unfolding judge judge_as
has_numbers s none j = absurd (omega arith)
has_numbers s (some xs) j = (xs, refl)

module _ (file : List ℕ) (at : ℕ) (s : Progress) where
  -- the next line starts past its 0A
  next : judge s (line_at file at).line ≡ 0 → (after_line (drop at file) ≡ drop (line_at file at).next file) × (at < (line_at file at).next)
  next j =
      let w = has_numbers s (numbers_of (drop at file)) j in
      let k : at + (2 * length w.0 + 1) ≡ at + 2 * length w.0 + 1 = omega arith in
      rw w.1 (after_numbers (drop at file) w.0 w.1 ∙ drop-drop _ at file ∙ ap (λ (i : ℕ). drop i file) k, omega arith)

  turned : at < length file
      → read_from s (lines (drop at file)) ≡ decided s (judge s (line_at file at).line) (read_from (after s (line_at file at).line) (lines (after_line (drop at file))))
  turned h = rw (drop-cons file at 0 h) (turn s (get_or file at 0) (drop (suc at) file))

  -- past the last line
  pub at_last : length file ≤ at → read_from s (lines (drop at file)) ≡ cond s.ended (finished s.rows s.program) (refused 8 (s.frames + 1))
  unfolding read_from lines
  at_last h = rw (drop_of_length-le file h)

  -- a line after the end frame
  pub is_over : at < length file → s.ended ≡ true → read_from s (lines (drop at file)) ≡ refused 8 (s.frames + 1)
  is_over h e = turned h ∙ rw e

  pub is_faulty : at < length file → s.ended ≡ false → 0 < judge s (line_at file at).line
      → read_from s (lines (drop at file)) ≡ refused (judge s (line_at file at).line) (s.frames + 1)
  is_faulty h e f = turned h ∙ rw (lt-ltb 0 (judge s (line_at file at).line) f, e)

  pub goes_on : at < length file → s.ended ≡ false → judge s (line_at file at).line ≡ 0
      → read_from s (lines (drop at file)) ≡ read_from (after s (line_at file at).line) (lines (drop (line_at file at).next file))
  goes_on h e j = turned h ∙ rw (j, (next j).0, e)

  pub moves : at < length file → judge s (line_at file at).line ≡ 0 → at < (line_at file at).next
  moves h j = (next j).1
