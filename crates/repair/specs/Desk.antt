-- What is kept from one repair call to the next: a file and marks.
use Rattle.std.specs.Prelude.{ℕ, List, take}
use Rattle.program.specs.Reading.{read_file}
use Rattle.writer.specs.WriteAnswers.{WriteAnswer}
use Rattle.writer.specs.WriteAnswers.{Written, Refused}
use Rattle.reach.specs.Marks.{fresh_marks}
use Rattle.repair.specs.Repairs.{After}

pub record Desk : Type 0 where
  pub file : List ℕ
  pub marks : List ℕ

-- at the start: an accepted file and its fresh marks
abbrev pub started : List ℕ → Desk
started file = record { file = file; marks = fresh_marks (read_file file).program }

-- the next file is a copy of what an accepted call wrote; a refused one leaves the file
abbrev pub file_by : WriteAnswer → List ℕ → List ℕ → List ℕ
file_by (Written n) output file = take n output
file_by (Refused n line) output file = file

abbrev pub after : After → List ℕ → Desk
after a file = record { file = file_by a.answer a.output file; marks = a.marks }
