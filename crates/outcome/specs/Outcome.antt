-- The outcome of reading a file that the reader's answer stands for: a refused file has no program.
use Rattle.std.specs.Prelude.{Result, Ok, Err}
use Rattle.program.specs.Program.{no_program}
use Rattle.program.specs.Verdicts.{Refused}
use Rattle.program.specs.Reading.{Outcome, accepted}
use Rattle.program.specs.Decoded.{program_of}
use Rattle.program.specs.Refusals.{number, pair_in}
use Rattle.program.specs.declared.DecodedProgram.{DecodedProgram}
use Rattle.program.specs.declared.refusal.RefusedAt.{RefusedAt}

abbrev pub outcome_of : Result DecodedProgram RefusedAt → Outcome
outcome_of (Ok p) = accepted (program_of p)
outcome_of (Err e) = record { verdict = Refused (number e.refusal) e.line; program = no_program; pair = pair_in e.refusal }
