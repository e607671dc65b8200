-- What an inside-out repair answers: so many bytes were written, and these routines were reanalyzed, a bit each; or a
-- number is refused, at a line.
use Rattle.std.specs.Prelude.{ℕ, Result, Ok, Err}
use Rattle.program.specs.Refusals.{number}
use Rattle.program.specs.declared.refusal.RefusedAt.{RefusedAt}
use Rattle.repair.specs.declared.Repair.{Repair}

pub data RepairAnswer : Type 0 where
  Repaired : ℕ → ℕ → RepairAnswer
  Refused : ℕ → ℕ → RepairAnswer

-- the code's answer: what was written and reanalyzed, or the refusal
abbrev pub repair_answer_by : Result Repair RefusedAt → RepairAnswer
repair_answer_by (Ok r) = Repaired r.written r.reanalyzed
repair_answer_by (Err e) = Refused (number e.refusal) e.line
