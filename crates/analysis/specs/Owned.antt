-- The verdict by a check that is made of no line: what it refuses, it refuses with line 0.
use Rattle.std.specs.Prelude.{Result, Ok, Err}
use Rattle.program.specs.Refusals.{number}
use Rattle.program.specs.Verdicts.{Verdict, Accepted, Refused}
use Rattle.program.specs.declared.refusal.Refusal.{Refusal}

abbrev pub verdict_met : {A : Type 0} → Result A Refusal → Verdict
verdict_met (Ok x) = Accepted
verdict_met (Err e) = Refused (number e) 0
