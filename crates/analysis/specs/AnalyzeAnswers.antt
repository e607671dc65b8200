-- What a full analysis answers: the counts of configurations, violations and iterations; or a number is refused, at a
-- line.
use Rattle.std.specs.Prelude.{ℕ, Result, Ok, Err}
use Rattle.program.specs.Refusals.{number}
use Rattle.program.specs.declared.refusal.RefusedAt.{RefusedAt}
use Rattle.analysis.specs.declared.MarkCounts.{MarkCounts}

pub data AnalyzeAnswer : Type 0 where
  Counts : ℕ → ℕ → ℕ → AnalyzeAnswer
  Refused : ℕ → ℕ → AnalyzeAnswer

-- the code's answer: the counts, or the refusal
abbrev pub analyze_answer_by : Result MarkCounts RefusedAt → AnalyzeAnswer
analyze_answer_by (Ok c) = Counts c.configurations c.violations c.iterations
analyze_answer_by (Err e) = Refused (number e.refusal) e.line
