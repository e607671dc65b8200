-- What the list of where runs are cut off answers: the number of a configuration and the place of an edge; or there is
-- none; or a number is refused, at a line.
use Rattle.std.specs.Prelude.{ℕ, Option, Some, None, Result, Ok, Err}
use Rattle.program.specs.Refusals.{number}
use Rattle.program.specs.declared.refusal.RefusedAt.{RefusedAt}
use Rattle.blocked.specs.declared.Blocked.{Blocked}

pub data BlockAnswer : Type 0 where
  Found : ℕ → ℕ → BlockAnswer
  Nothing : BlockAnswer
  Refused : ℕ → ℕ → BlockAnswer

-- the code's answer: where runs are cut off, if anywhere, or the refusal
abbrev pub block_answer_by : Result (Option Blocked) RefusedAt → BlockAnswer
block_answer_by (Ok (Some b)) = Found b.number b.edge
block_answer_by (Ok None) = Nothing
block_answer_by (Err e) = Refused (number e.refusal) e.line
