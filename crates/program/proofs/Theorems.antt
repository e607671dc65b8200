-- What is proved of program files.
use mathlib.Core.Path.{◌≡◌, refl, sym, ap, ◌∙◌}
use mathlib.Core.Logic.{◌↔◌, ◌≢◌, ◌⊎◌}
use mathlib.Core.List.{List, []}
use Prim.Native.Nat.{ℕ, ◌≤◌, ◌<◌}
use native.Mathlib.Omega.{arith}
use lib.ListN.{length}
use Rattle.text.specs.Lines.{lines}
use Rattle.program.specs.Program.{Program}
use Rattle.tables.specs.Keys.{Ascending}
use Rattle.rows.specs.Rows.{TableRow}
use Rattle.program.specs.WellFormed.{All, WellFormed, WellFormedRows}
use Rattle.program.specs.Writing.{written_with, written}
use Rattle.program.specs.Reading.{start, Outcome, accepted, read_file, rows_from, rows_in}
use Rattle.program.specs.Verdicts.{Accepted, Refused}
use Rattle.program.proofs.ProgramLimits.{written_short}
use Rattle.program.proofs.ProgressSound.{start_sound}
use Rattle.program.proofs.RefusalsSmall.{Small, small_refusals}
use Rattle.program.proofs.FilesAsFrames.{read_text, rows_text}
use Rattle.program.proofs.TableWellFormed.{TableOf}
use Rattle.program.proofs.FramesWrittenBack.{accepted_file}
use Rattle.program.proofs.FramesFitBytes.{all_bytes, rows_framed}
use Rattle.program.proofs.FramesReadAgain.{again}

-- The program of an accepted file is well-formed.
pub accepted_well_formed : (file : List ℕ) → (read_file file).verdict ≡ Accepted → WellFormed (read_file file).program
accepted_well_formed file h = (accepted_file file h).well_formed

-- The rows of an accepted file are in range, ascending and within the limit.
pub accepted_rows : (file : List ℕ) → (read_file file).verdict ≡ Accepted → WellFormedRows (read_file file).program (rows_in file)
accepted_rows file h = (accepted_file file h).rows

-- The program of an accepted file, written with the file's rows, is that file.
pub written_back : (file : List ℕ) → (read_file file).verdict ≡ Accepted → written_with (read_file file).program (rows_in file) ≡ file
written_back file h = (accepted_file file h).comes_back

-- A well-formed program and its rows, written, are accepted and read as that program.
module _ (p : Program) (w : WellFormed p) (rs : List TableRow) (v : WellFormedRows p rs) (t : rs ≢ [] → TableOf p rs) where
  pub read_again_with : read_file (written_with p rs) ≡ accepted p
  unfolding read_file written_with
  read_again_with = read_text _ start (all_bytes p w rs v) ∙ again p w rs v t

  rows_written : rows_from p.automaton.states (lines (written_with p rs)) ≡ rs
  unfolding written_with
  rows_written = rows_text _ _ (all_bytes p w rs v) ∙ rows_framed p rs _

  -- And the rows of what is written are these.
  pub rows_again : rows_in (written_with p rs) ≡ rs
  rows_again = ap (λ (o : Outcome). rows_from o.program.automaton.states (lines (written_with p rs))) read_again_with ∙ rows_written

-- No row is a good list of rows.
pub no_rows : (p : Program) → WellFormedRows p []
unfolding All Ascending
no_rows p = record { rows_fit = tt; rows_ascend = tt; rows_limited = omega arith }

-- An accepted file's outcome is that of its program: no pair is told.
pub accepted_as : (file : List ℕ) → (read_file file).verdict ≡ Accepted → read_file file ≡ accepted (read_file file).program
accepted_as file h =
    ap read_file (sym (written_back file h)) ∙ read_again_with (read_file file).program (accepted_well_formed file h) (rows_in file) (accepted_rows file h) (accepted_file file h).table

-- What is written of a well-formed program has no row.
pub no_row_written : (p : Program) → WellFormed p → rows_in (written p) ≡ []
no_row_written p w = rows_again p w [] (no_rows p) (λ n. absurd (n refl))

-- An accepted file is what is written of its program exactly when it has no row.
pub same_without_rows : (file : List ℕ) → (read_file file).verdict ≡ Accepted → (written (read_file file).program ≡ file) ↔ (rows_in file ≡ [])
same_without_rows file h = (
  λ e. sym (ap rows_in e) ∙ no_row_written (read_file file).program (accepted_well_formed file h),
  λ e. ap (written_with (read_file file).program) (sym e) ∙ written_back file h,
)

-- The table of an accepted file with rows is complete, and its transitions are the program's.
pub rows_read : (file : List ℕ) → (read_file file).verdict ≡ Accepted → rows_in file ≢ [] → TableOf (read_file file).program (rows_in file)
rows_read file h = (accepted_file file h).table

-- A well-formed program, written, is accepted and read as that program.
pub read_again : (p : Program) → WellFormed p → read_file (written p) ≡ accepted p
read_again p w = read_again_with p w [] (no_rows p) (λ n. absurd (n refl))

-- A well-formed program's file has at most 7,712 bytes, with rows or without.
pub limited_with : (p : Program) → WellFormed p → (rs : List TableRow) → WellFormedRows p rs → length (written_with p rs) ≤ 7712
limited_with p w rs v = written_short p w rs v.rows_limited

pub written_limited : (p : Program) → WellFormed p → length (written p) ≤ 7712
written_limited p w = limited_with p w [] (no_rows p)

-- A refusal's number is 1 to 8, 19, 20 or 23, and its line at most 819, whatever the file.
pub few_lines : (file : List ℕ) → (n line : ℕ) → (read_file file).verdict ≡ Refused n line → (0 < n) × (n ≤ 23) × (line ≤ 819) × ((n ≤ 8) ⊎ (19 ≤ n)) × (n ≢ 21) × (n ≢ 22)
unfolding read_file Small
few_lines file n line e = rw e at (small_refusals (lines file) start start_sound)
