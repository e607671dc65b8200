-- The answers of the two moves, of old marks to frames and back, and the lent bytes afterwards: functions of everything
-- lent.
use Rattle.std.specs.Prelude.{ℕ, not, List, [], ◌∷◌, ◌++◌, ltb, length, drop}
use Rattle.program.specs.Program.{Program}
use Rattle.program.specs.Chosen.{sizes_of, numbers}
use Rattle.program.specs.Reading.{read_file}
use Rattle.program.specs.Checks.{Row, row, first_met, verdict_of, followed_by, other_than}
use Rattle.program.specs.Verdicts.{Verdict}
use Rattle.program.specs.Verdicts as verdict
use Rattle.program.specs.Checks.{Length}
use Rattle.std.specs.Prelude.{None, Some}
use Rattle.reach.specs.Configurations.{none_set}
use Rattle.analysis.specs.Answers.{same, on_success}
use Rattle.writer.specs.WriteAnswers.{WriteAnswer}
use Rattle.writer.specs.WriteAnswers.{Written, Refused}
use Rattle.saved.specs.Saved.{old_sizes, too_large, old_marks, saved_text}

-- over: old marks become frames; back: frames become old marks
pub data Way : Type 0 where
  over : Way
  back : Way

-- what has to be given: the program's own in the one form
abbrev pub own : Way → Program → List ℕ
own over p = old_marks p
own back p = saved_text p

-- and what is written: the same in the other form
abbrev pub moved : Way → Program → List ℕ
moved over p = saved_text p
moved back p = old_marks p

-- ---- the checks

-- how long the old marks are that are given: moving back, frames are
abbrev pub given_marks : Way → List ℕ → Length
given_marks over given = Some (length given)
given_marks back given = None

-- before anything is touched
abbrev pub early_rows : Program → Length → ℕ → List Row
early_rows p marks work =
    -- more than 16 nodes in some routine, 8 states or 256 transitions (paper: places, rule lines)
    row 24 (too_large p)
    -- the old marks do not have 16,384 bytes
    ∷ row 9 (other_than (numbers old_sizes) marks)
    -- the working buffer does not have a byte for each configuration of the program, in its own sizes
    ∷ row 11 (other_than (numbers (sizes_of p)) (Some work))
    ∷ []

-- then
abbrev pub late_rows : Way → Program → List ℕ → ℕ → List Row
late_rows way p given room =
    -- frames that break the rules, or old marks that are not the program's own
    row 25 (not (same given (own way p)))
    -- the output is shorter than the form to be written
    ∷ row 10 (ltb room (length (moved way p)))
    ∷ []

abbrev pub early_checked : Way → List ℕ → List ℕ → List ℕ → Verdict
early_checked way file given work =
    followed_by (read_file file).verdict
    (verdict_of (first_met (early_rows (read_file file).program (given_marks way given) (length work))))

abbrev pub move_checked : Way → List ℕ → List ℕ → List ℕ → List ℕ → Verdict
move_checked way file given output work =
    followed_by (early_checked way file given work)
    (verdict_of (first_met (late_rows way (read_file file).program given (length output))))

-- ---- what a move gives

-- how many bytes are written, or the refusal
abbrev pub written_by : Verdict → List ℕ → WriteAnswer
written_by verdict.Accepted t = Written (length t)
written_by (verdict.Refused n line) t = Refused n line

-- a text at the output's start, and the output's own bytes after it
abbrev pub at_start : List ℕ → List ℕ → List ℕ
at_start t output = t ++ drop (length t) output

unfoldable pub move_answer : Way → List ℕ → List ℕ → List ℕ → List ℕ → WriteAnswer
move_answer way file given output work =
    written_by (move_checked way file given output work) (moved way (read_file file).program)

-- a refusal leaves the output alone
unfoldable pub move_output : Way → List ℕ → List ℕ → List ℕ → List ℕ → List ℕ
move_output way file given output work =
    on_success (move_checked way file given output work) (at_start (moved way (read_file file).program) output) output

-- the working buffer is all zero once the early checks are passed, also after 25 and 10
unfoldable pub move_work : Way → List ℕ → List ℕ → List ℕ → List ℕ
move_work way file given work =
    on_success (early_checked way file given work) (none_set (sizes_of (read_file file).program)) work
