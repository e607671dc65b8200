-- The answers of the analysis and of the list of violations, and the lent bytes afterwards: functions of everything
-- lent.
use Rattle.std.specs.Prelude.{ℕ, Bool, true, false, ◌&&◌, not, List, [], ◌∷◌, eqb, ltb, length}
use Rattle.std.proofs.Math.Option.{Option, some, none}
use Rattle.program.specs.Program.{Program}
use Rattle.program.specs.Chosen.{sizes_of}
use Rattle.program.specs.Reading.{read_file}
use Rattle.program.specs.Checks.{Row, row, first_met, verdict_of, followed_by, checked}
use Rattle.program.specs.Verdicts.{Verdict}
use Rattle.program.specs.Verdicts as verdict
use Rattle.std.specs.Prelude.{None, Some}
use Rattle.reach.specs.Configurations.{none_set}
use Rattle.reach.specs.Worklist.{analysis}
use Rattle.reach.specs.Marks.{fresh_marks, violations, first_from}
use Rattle.base.specs.Flags.{count_set}
use Rattle.analysis.specs.AnalyzeAnswers.{AnalyzeAnswer}
use Rattle.analysis.specs.AnalyzeAnswers as analyzed
use Rattle.analysis.specs.NextAnswers.{NextAnswer}
use Rattle.analysis.specs.NextAnswers as next

-- ---- the checks: before anything is touched, the file and the lengths of the marks and of the working buffer

abbrev pub checked_marks : List ℕ → List ℕ → List ℕ → Verdict
checked_marks file marks work = checked file (Some (length marks)) None (Some (length work))

-- every byte is the same
unfoldable pub same : List ℕ → List ℕ → Bool
same [] [] = true
same [] (y ∷ ys) = false
same (x ∷ xs) [] = false
same (x ∷ xs) (y ∷ ys) = eqb x y && same xs ys

-- then, in the working buffer: any byte of the marks differs from the program's own
abbrev pub foreign_row : Program → List ℕ → Row
foreign_row p marks = row 17 (not (same marks (fresh_marks p)))

abbrev pub owned : Program → List ℕ → Verdict
owned p marks = verdict_of (first_met (foreign_row p marks ∷ []))

-- or, for `analyze`: the procedure's count of iterations (paper: takings) is above the limit
abbrev pub limit_row : Program → ℕ → Row
limit_row p limit = row 22 (ltb limit (analysis p).iterations)

abbrev pub limited : Program → ℕ → Verdict
limited p limit = verdict_of (first_met (limit_row p limit ∷ []))

abbrev pub checked_limit : List ℕ → List ℕ → List ℕ → ℕ → Verdict
checked_limit file marks work limit = followed_by (checked_marks file marks work) (limited (read_file file).program limit)

abbrev pub checked_own : List ℕ → List ℕ → List ℕ → Verdict
checked_own file marks work = followed_by (checked_marks file marks work) (owned (read_file file).program marks)

-- ---- `analyze`

-- the counts of configurations, of violations and of iterations, or the refusal
abbrev pub analyze_by : Verdict → Program → AnalyzeAnswer
analyze_by verdict.Accepted p = analyzed.Counts (count_set (fresh_marks p)) (length (violations p))
    (analysis p).iterations
analyze_by (verdict.Refused n line) p = analyzed.Refused n line

unfoldable pub analyze_answer : List ℕ → List ℕ → List ℕ → ℕ → AnalyzeAnswer
analyze_answer file marks work limit = analyze_by (checked_limit file marks work limit) (read_file file).program

-- the new bytes on success, the old ones on a refusal
abbrev pub on_success : Verdict → List ℕ → List ℕ → List ℕ
on_success verdict.Accepted new old = new
on_success (verdict.Refused n line) new old = old

unfoldable pub marks_after : List ℕ → List ℕ → List ℕ → ℕ → List ℕ
marks_after file marks work limit =
    on_success (checked_limit file marks work limit) (fresh_marks (read_file file).program) marks

-- the working buffer is all zero once the file and the lengths are checked, also after 17 and 22
unfoldable pub work_after : List ℕ → List ℕ → List ℕ → List ℕ
work_after file marks work =
    on_success (checked_marks file marks work) (none_set (sizes_of (read_file file).program)) work

-- ---- `next_violation`

abbrev pub found_of : Option ℕ → NextAnswer
found_of none = next.Nothing
found_of (some i) = next.Found i

abbrev pub found_by : Verdict → Option ℕ → NextAnswer
found_by verdict.Accepted v = found_of v
found_by (verdict.Refused n line) v = next.Refused n line

-- the first violation not below the number is found, or none
unfoldable pub next_answer : List ℕ → List ℕ → List ℕ → ℕ → NextAnswer
next_answer file marks work low =
    found_by (checked_own file marks work) (first_from low (violations (read_file file).program))

-- ---- the numbers of the answers; 0 where there is none

abbrev pub analyze_refusal : AnalyzeAnswer → ℕ
analyze_refusal (analyzed.Counts c v i) = 0
analyze_refusal (analyzed.Refused n line) = n

abbrev pub analyze_line : AnalyzeAnswer → ℕ
analyze_line (analyzed.Counts c v i) = 0
analyze_line (analyzed.Refused n line) = line

abbrev pub configuration_count : AnalyzeAnswer → ℕ
configuration_count (analyzed.Counts c v i) = c
configuration_count (analyzed.Refused n line) = 0

abbrev pub violation_count : AnalyzeAnswer → ℕ
violation_count (analyzed.Counts c v i) = v
violation_count (analyzed.Refused n line) = 0

abbrev pub iteration_count : AnalyzeAnswer → ℕ
iteration_count (analyzed.Counts c v i) = i
iteration_count (analyzed.Refused n line) = 0

abbrev pub next_refusal : NextAnswer → ℕ
next_refusal (next.Found i) = 0
next_refusal next.Nothing = 0
next_refusal (next.Refused n line) = n

abbrev pub next_line : NextAnswer → ℕ
next_line (next.Found i) = 0
next_line next.Nothing = 0
next_line (next.Refused n line) = line

-- 4294967295 says that there is none
abbrev pub next_found : NextAnswer → ℕ
next_found (next.Found i) = i
next_found next.Nothing = 4294967295
next_found (next.Refused n line) = 0
