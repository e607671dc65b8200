-- What `passed_program` gives: the program of a file whose reading and whose buffers' lengths refuse nothing, or the
-- refusal; and `checked_program`: the same, the refusal with the program that was read.
use Rattle.std.specs.Prelude.{ℕ, ◌≡◌, List, Result, Ok, Err, IfOk}
use Rattle.rows.specs.Rows.{Pair, no_pair}
use Rattle.program.specs.Reading.{Outcome, accepted, read_file}
use Rattle.program.specs.Checks.{Length, checked, Sized}
use Rattle.program.specs.Chosen.{sizes_of, numbers}
use Rattle.program.specs.WellFormed.{WellFormed}
use Rattle.program.specs.Decoded.{program_of}
use Rattle.program.specs.Refusals.{number, verdict_by, pair_in}
use Rattle.program.specs.Verdicts.{Refused}
use Rattle.program.specs.declared.DecodedProgram.{DecodedProgram}
use Rattle.program.specs.declared.refusal.RefusedAt.{RefusedAt}
use Rattle.checks.specs.declared.RefusedCall.{RefusedCall}

-- the program is the file's, it is well-formed, and each buffer has its size
pub record Passed (file : List ℕ) (marks output work : Length) (p : DecodedProgram) : Type 0 where
  pub program : program_of p ≡ (read_file file).program
  pub well_formed : WellFormed (program_of p)
  pub sized : Sized (numbers (sizes_of (program_of p))) marks output work

-- the pair that an answer tells: none where it is not refused for a table
abbrev pub pair_by : {A : Type 0} → Result A RefusedAt → Pair
pair_by (Ok x) = no_pair
pair_by (Err e) = pair_in e.refusal

pub record PassedOr (file : List ℕ) (marks output work : Length) (r : Result DecodedProgram RefusedAt) : Type 0 where
  pub verdict : verdict_by r ≡ checked file marks output work
  pub pair : pair_by r ≡ (read_file file).pair
  pub passed : IfOk r (Passed file marks output work)

-- what the checks say with the program that was read: the verdict, that program, and the pair that its table is refused for
abbrev pub outcome_of : Result DecodedProgram RefusedCall → Outcome
outcome_of (Ok p) = accepted (program_of p)
outcome_of (Err e) =
    record { verdict = Refused (number e.refused.refusal) e.refused.line; program = program_of e.program; pair = pair_in e.refused.refusal }

-- refused or not, the program and the pair are those of the file's reading
pub record Checked (file : List ℕ) (marks output work : Length) (r : Result DecodedProgram RefusedCall) : Type 0 where
  pub verdict : (outcome_of r).verdict ≡ checked file marks output work
  pub program : (outcome_of r).program ≡ (read_file file).program
  pub pair : (outcome_of r).pair ≡ (read_file file).pair
  pub passed : IfOk r (Passed file marks output work)
