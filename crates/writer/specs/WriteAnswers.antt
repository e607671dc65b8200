-- What is answered by all that writes to an output: so many bytes were written; or a number is refused, at a line.
use Rattle.std.specs.Prelude.{ℕ, Result, Ok, Err}
use Rattle.program.specs.Refusals.{number}
use Rattle.program.specs.declared.refusal.RefusedAt.{RefusedAt}

pub data WriteAnswer : Type 0 where
  Written : ℕ → WriteAnswer
  Refused : ℕ → ℕ → WriteAnswer

-- the code's answer: the count of bytes, or the refusal
abbrev pub write_answer_by : Result ℕ RefusedAt → WriteAnswer
write_answer_by (Ok size) = Written size
write_answer_by (Err e) = Refused (number e.refusal) e.line
