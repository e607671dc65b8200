-- A number that is told of an accepted file only.
use Rattle.std.specs.Prelude.{ℕ}
use Rattle.program.specs.Verdicts.{Verdict}
use Rattle.program.specs.Verdicts as verdict

abbrev pub told : Verdict → ℕ → ℕ
told verdict.Accepted n = n
told (verdict.Refused m line) n = 0
