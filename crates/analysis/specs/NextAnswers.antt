-- What the list of violations answers: the number of one; or there is none; or a number is refused, at a line.
use Rattle.std.specs.Prelude.{ℕ, Option, Some, None, Result, Ok, Err}
use Rattle.program.specs.Refusals.{number}
use Rattle.program.specs.declared.refusal.RefusedAt.{RefusedAt}

pub data NextAnswer : Type 0 where
  Found : ℕ → NextAnswer
  Nothing : NextAnswer
  Refused : ℕ → ℕ → NextAnswer

-- the code's answer: a number or none, or the refusal
abbrev pub next_answer_by : Result (Option ℕ) RefusedAt → NextAnswer
next_answer_by (Ok (Some i)) = Found i
next_answer_by (Ok None) = Nothing
next_answer_by (Err e) = Refused (number e.refusal) e.line
