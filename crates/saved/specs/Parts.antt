-- What the functions of the two moves promise of each other; nothing here has to be believed.
use Rattle.std.specs.Prelude.{ℕ, ◌≡◌, false, List, [], ◌∷◌, ltb, length, Result, IfOk}
use Rattle.program.specs.Program.{Program}
use Rattle.program.specs.Chosen.{sizes_of, numbers}
use Rattle.program.specs.Reading.{read_file}
use Rattle.program.specs.WellFormed.{WellFormed}
use Rattle.program.specs.Decoded.{program_of}
use Rattle.program.specs.Checks.{Length, row, first_met, verdict_of, followed_by, HasLength}
use Rattle.program.specs.Verdicts.{Verdict}
use Rattle.program.specs.Refusals.{verdict_by}
use Rattle.program.specs.declared.DecodedProgram.{DecodedProgram}
use Rattle.program.specs.declared.refusal.RefusedAt.{RefusedAt}
use Rattle.analysis.specs.Answers.{on_success}
use Rattle.writer.specs.WriteAnswers.{write_answer_by}
use Rattle.saved.specs.Saved.{old_sizes, too_large}
use Rattle.saved.specs.Answers.{Way, moved, early_rows, late_rows, written_by, at_start}

-- something is written at an output's start, by a verdict
pub record WroteBy (v : Verdict) (t old new : List ℕ) (r : Result ℕ RefusedAt) : Type 0 where
  pub answer : write_answer_by r ≡ written_by v t
  pub output : new ≡ on_success v (at_start t old) old

-- there is room for it, or 10
abbrev pub Wrote : List ℕ → List ℕ → List ℕ → Result ℕ RefusedAt → Type 0
Wrote t old new r = WroteBy (verdict_of (first_met (row 10 (ltb (length old) (length t)) ∷ []))) t old new r

-- a move, once the early checks are passed
abbrev pub Moved : Way → Program → List ℕ → List ℕ → List ℕ → Result ℕ RefusedAt → Type 0
Moved way p given old new r = WroteBy (verdict_of (first_met (late_rows way p given (length old)))) (moved way p) old new r

-- where the early checks refuse nothing: the program is the file's, well-formed and one of that time, and each buffer
-- has its length
pub record PassedEarly (file : List ℕ) (marks : Length) (work : ℕ) (p : DecodedProgram) : Type 0 where
  pub program : program_of p ≡ (read_file file).program
  pub well_formed : WellFormed (program_of p)
  pub of_old : too_large (program_of p) ≡ false
  pub marks-length : HasLength (numbers old_sizes) marks
  pub work_length : work ≡ numbers (sizes_of (program_of p))

-- what `checked_early` gives: the program, or the first refusal
pub record CheckedEarly (file : List ℕ) (marks : Length) (work : ℕ) (r : Result DecodedProgram RefusedAt) : Type 0 where
  pub verdict : verdict_by r ≡ followed_by (read_file file).verdict
      (verdict_of (first_met (early_rows (read_file file).program marks work)))
  pub passed : IfOk r (PassedEarly file marks work)
