-- What `bench` prints, as one function of its input: a file (where it ends is said in `Input.antt`), and then edits, a
-- line each.
use Rattle.std.specs.Prelude.{ℕ, ◌+◌, ◌*◌, ◌/◌, ◌%◌, ◌≡◌, cond, List, [], ◌∷◌, ◌++◌, map, ltb, length, take, drop}
use Rattle.program.specs.Sizes.{marks_most}
use Rattle.text.specs.Hex.{hex_line}
use Rattle.text.specs.Lines.{lines}
use Rattle.input.specs.Input.{input_size, file_size}
use Rattle.program.specs.declared.sizes.Sizes.{Sizes}
use Rattle.program.specs.Chosen.{sizes_of}
use Rattle.program.specs.Program.{Program}
use Rattle.program.specs.Reading.{read_file}
use Rattle.program.specs.Checks.{checked}
use Rattle.program.specs.Writing.{text}
use Rattle.program.specs.Verdicts.{Verdict}
use Rattle.program.specs.Verdicts as verdict
use Rattle.std.specs.Prelude.{None, Some}
use Rattle.reach.specs.Marks.{fresh_marks, violations_from}
use Rattle.base.specs.Flags.{count_set}
use Rattle.listing.specs.Listing.{frame_at, line_size}
use Rattle.edit.specs.Editing.{edited_program}
use Rattle.edit_line.specs.EditLines.{wanted_edit}
use Rattle.edit.specs.EditReads.{EditRead}
use Rattle.edit.specs.EditReads.{Read, Refused}

-- ---- what is printed

-- a violation (paper: a finding)
abbrev pub violation_frame : Sizes → ℕ → List ℕ
violation_frame Z = frame_at 0x58 Z

-- the counts of configurations (paper: standings) and of violations, four digits each
abbrev pub count_frame : ℕ → ℕ → List ℕ
count_frame c v = 0x5A ∷ c / 256 ∷ c % 256 ∷ v / 256 ∷ v % 256 ∷ []

-- the block of a program and its marks in some sizes: each violation, ascending, and then the counts
unfoldable pub block_at : Sizes → Program → List ℕ → List ℕ
block_at Z p marks = text (map (violation_frame Z) (violations_from Z p marks 0)
    ++ count_frame (count_set marks) (length (violations_from Z p marks 0)) ∷ [])

-- in the program's own
abbrev pub block_of : Program → List ℕ → List ℕ
block_of p marks = block_at (sizes_of p) p marks

-- a refused edit, a refused file with its line, and an input that is too long (18)
abbrev pub refused_edit : ℕ → List ℕ
refused_edit n = hex_line (0x21 ∷ n ∷ [])

abbrev pub refused_file : ℕ → ℕ → List ℕ
refused_file n line = hex_line (0x21 ∷ n ∷ line / 256 ∷ line % 256 ∷ [])

abbrev pub too_long_text : List ℕ
too_long_text = refused_edit 18

-- a block comes after each accepted edit; a refused one prints its number, and leaves the program
abbrev pub edit_text : EditRead → Program → List ℕ
edit_text (Read e) p = block_of (edited_program e p) (fresh_marks (edited_program e p))
edit_text (Refused n) p = refused_edit n

abbrev pub program_after : EditRead → Program → Program
program_after (Read e) p = edited_program e p
program_after (Refused n) p = p

unfoldable pub edits_text : Program → List (List ℕ) → List ℕ
edits_text p [] = []
edits_text p (l ∷ ls) = edit_text (wanted_edit p l) p ++ edits_text (program_after (wanted_edit p l) p) ls

-- after a refused file nothing more is printed
abbrev pub file_text : Verdict → Program → List (List ℕ) → List ℕ
file_text verdict.Accepted p ls = block_of p (fresh_marks p) ++ edits_text p ls
file_text (verdict.Refused n line) p ls = refused_file n line

abbrev pub input_text : List ℕ → ℕ → List ℕ
input_text input size = file_text (read_file (take size input)).verdict (read_file (take size input)).program
    (lines (drop size input))

unfoldable pub bench_text : List ℕ → List ℕ
bench_text input = cond (ltb input_size (length input)) too_long_text (input_text input (file_size (lines input)))

-- ---- the text of a block, as it is asked for: for a file and marks, into an output

-- no block is longer: a line for each configuration, and the counts, each of line_size bytes
abbrev pub block_size : ℕ
block_size = line_size * marks_most + line_size

-- the block, or nothing where the file or the marks' length is refused, or the output is too short for every block
abbrev pub block_by : Verdict → Program → List ℕ → ℕ → List ℕ
block_by verdict.Accepted p marks room = cond (ltb room block_size) [] (block_of p marks)
block_by (verdict.Refused n line) p marks room = []

unfoldable pub block_text : List ℕ → List ℕ → ℕ → List ℕ
block_text file marks room =
    block_by (checked file (Some (length marks)) None None) (read_file file).program marks room

-- ---- a line of a refusal, as it is asked for: into an output

-- the line, or nothing where the output is too short for every line
abbrev pub line_within : List ℕ → ℕ → List ℕ
line_within l room = cond (ltb room line_size) [] l

abbrev pub edit_refusal : ℕ → ℕ → List ℕ
edit_refusal n room = line_within (refused_edit n) room

-- four digits hold a line below 65,536, and of any other its remainder; no input that is read has so many lines
abbrev pub file_refusal : ℕ → ℕ → ℕ → List ℕ
file_refusal n line room = line_within (refused_file n (line % 65536)) room

-- ---- an output

-- the text at the output's start, and the output's own bytes after it; the answer is the text's length
abbrev pub Printed : List ℕ → List ℕ → List ℕ → ℕ → Type 0
Printed t old new r = (r ≡ length t) × (new ≡ t ++ drop (length t) old)
