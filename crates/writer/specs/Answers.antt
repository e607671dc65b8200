-- The answer of `write`, and the output afterwards: functions of everything that is lent.
use Rattle.std.specs.Prelude.{ℕ, List, ◌++◌, length, drop}
use Rattle.program.specs.Program.{Program}
use Rattle.program.specs.Writing.{written}
use Rattle.program.specs.Reading.{read_file}
use Rattle.program.specs.Checks.{checked}
use Rattle.program.specs.Verdicts.{Verdict}
use Rattle.program.specs.Verdicts as verdict
use Rattle.std.specs.Prelude.{None, Some}
use Rattle.writer.specs.WriteAnswers.{WriteAnswer}
use Rattle.writer.specs.WriteAnswers.{Written, Refused}

-- how many bytes are written, or the refusal
abbrev pub answer_by : Verdict → Program → WriteAnswer
answer_by verdict.Accepted p = Written (length (written p))
answer_by (verdict.Refused n line) p = Refused n line

-- the program at the output's start, and the output's own bytes after it; a refusal leaves the output alone
abbrev pub output_by : Verdict → Program → List ℕ → List ℕ
output_by verdict.Accepted p output = written p ++ drop (length (written p)) output
output_by (verdict.Refused n line) p output = output

-- the checks: the file, and the output's length
abbrev pub checked_output : List ℕ → List ℕ → Verdict
checked_output file output = checked file None (Some (length output)) None

unfoldable pub write_answer : List ℕ → List ℕ → WriteAnswer
write_answer file output = answer_by (checked_output file output) (read_file file).program

unfoldable pub output_after : List ℕ → List ℕ → List ℕ
output_after file output = output_by (checked_output file output) (read_file file).program output

-- ---- the numbers of an answer: the refusal, its line, and how many bytes were written; 0 where there is none

abbrev pub refusal : WriteAnswer → ℕ
refusal (Written n) = 0
refusal (Refused n line) = n

abbrev pub refusal_line : WriteAnswer → ℕ
refusal_line (Written n) = 0
refusal_line (Refused n line) = line

abbrev pub written_length : WriteAnswer → ℕ
written_length (Written n) = n
written_length (Refused n line) = 0
