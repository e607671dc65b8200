-- What `bench` prints (the paper's section of that name), a turn after the other: one for the file, and then one for
-- each edit line. Between two turns a file and its marks are held.
use Rattle.std.specs.Prelude.{ℕ, ◌+◌, ◌<◌, ◌≤◌, ◌≡◌, cond, List, [], ◌∷◌, ltb, length, take, drop, replicate}
use Rattle.text.specs.Lines.{lines}
use Rattle.program.specs.Program.{Program}
use Rattle.program.specs.Reading.{read_file}
use Rattle.program.specs.Verdicts.{Verdict}
use Rattle.program.specs.Verdicts as verdict
use Rattle.program.specs.Sizes.{output_size}
use Rattle.writer.specs.WriteAnswers.{WriteAnswer}
use Rattle.writer.specs.WriteAnswers.{Written, Refused}
use Rattle.reach.specs.Marks.{fresh_marks}
use Rattle.exchange.specs.Changes.{EditLine}
use Rattle.repair.specs.Repairs.{After, repaired}
use Rattle.repair.specs.Desk.{Desk, started, after}
use Rattle.input.specs.Input.{file_size, first_size, input_size}
use Rattle.report.specs.Report.{block_of, too_long_text, refused_file, refused_edit, Printed}
use Rattle.transcript.specs.declared.Held.{Held}
use Rattle.transcript.specs.declared.Turn.{Turn}

-- ---- what a turn's function gives

-- the file and the marks that are held; the arrays' bytes past them are free, and no turn depends on them
abbrev pub held_of : Held → Desk
held_of h = record { file = take h.used h.file; marks = take h.size h.marks }

-- nothing: no byte of a file, and no mark
abbrev pub nothing : Desk
nothing = record { file = []; marks = [] }

-- a turn: what is printed, where the next edit line starts, and what is held for it
pub record Shown : Type 0 where
  pub text : List ℕ
  pub next : ℕ
  pub held : Desk

-- what a turn's function promises: the text stands at the output's start, whose other bytes stay, and the answer has
-- the text's length, the next position and what is held
pub record TurnGives (s : Shown) (old new : List ℕ) (t : Turn) : Type 0 where
  pub printed : Printed s.text old new t.size
  pub next : t.next ≡ s.next
  pub held : held_of t.held ≡ s.held

-- ---- the first turn

-- the file of an input: through its first line that starts with 45, all of it if there is none
abbrev pub file_of : List ℕ → List ℕ
file_of input = take (file_size (lines input)) input

-- a text, and then nothing more
abbrev pub alone : List ℕ → List ℕ → Shown
alone text input = record { text = text; next = length input; held = nothing }

-- the block comes after the file, and then the edits; a refused file prints its refusal, then nothing more
abbrev pub begun_by : Verdict → Program → List ℕ → Shown
begun_by verdict.Accepted p input = record {
  text = block_of p (fresh_marks p);
  next = file_size (lines input);
  held = started (file_of input);
}
begun_by (verdict.Refused n line) p input = alone (refused_file n line) input

-- 18 is printed alone
unfoldable pub begun : List ℕ → Shown
begun input = cond (ltb input_size (length input)) (alone too_long_text input)
    (begun_by (read_file (file_of input)).verdict (read_file (file_of input)).program input)

-- ---- a turn for an edit line

-- the line that starts at a position of the input; past the end it is empty
abbrev pub line_at : List ℕ → ℕ → List ℕ
line_at input at = take (first_size (lines (drop at input))) (drop at input)

-- an output that nothing was written to
unfoldable pub no_output : List ℕ
no_output = replicate output_size 0

-- a working buffer that nothing was written to, as long as the marks
unfoldable pub no_work : ℕ → List ℕ
no_work n = replicate n 0

-- an edit line on what is held, by either repair: both promise the same of it; an edit line has no second buffer
abbrev pub edit_on : List ℕ → Desk → After
edit_on line d = repaired EditLine d.file d.marks line no_output (no_work (length d.marks)) []

-- the block comes after an accepted edit, of the new file's program and its marks; a refused edit prints its number
abbrev pub text_by : WriteAnswer → Desk → List ℕ
text_by (Written n) d = block_of (read_file d.file).program d.marks
text_by (Refused n line) d = refused_edit n

-- what is held next is what the repair leaves: a copy of what it wrote, or the file as it was, and the marks
abbrev pub turned_by : After → List ℕ → ℕ → Shown
turned_by a file next = record { text = text_by a.answer (after a file); next = next; held = after a file }

-- the next line starts past this one
unfoldable pub turned : List ℕ → ℕ → Desk → Shown
turned input at d = turned_by (edit_on (line_at input at) d) d.file (at + first_size (lines (drop at input)))

-- ---- all turns

-- the turns that follow a turn until the input is at its end, each by either repair and into any output, and what each
-- prints: the first `size` bytes of its output
pub data Turns (input : List ℕ) : Turn → List (List ℕ) → Type 0 where
  over : {t : Turn} → length input ≤ t.next → Turns input t []
  turn : {t t' : Turn} {old new : List ℕ} {texts : List (List ℕ)} → t.next < length input
      → TurnGives (turned input t.next (held_of t.held)) old new t'
      → Turns input t' texts → Turns input t (take t'.size new ∷ texts)
