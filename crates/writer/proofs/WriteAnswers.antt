-- The answer of `write`, by what the checks say.
use Prim.Native.Nat.{ℕ, ◌≤◌}
use mathlib.Core.Path.{◌≡◌, refl}
use mathlib.Core.List.{List}
use native.Mathlib.Omega.{arith}
use lib.ListN.{length}
use Rattle.std.specs.Prelude.{None, Some}
use Rattle.program.specs.Writing.{written}
use Rattle.program.specs.Decoded.{program_of}
use Rattle.program.specs.Verdicts.{Accepted}
use Rattle.program.specs.Verdicts as verdict
use Rattle.program.proofs.Theorems.{written_limited}
use Rattle.checks.specs.Checked.{Passed}
use Rattle.program.specs.declared.DecodedProgram.{DecodedProgram}
use Rattle.writer.specs.WriteAnswers.{Written, Refused}
use Rattle.writer.specs.Answers.{checked_output, output_by, write_answer, output_after}

module _ (file output : List ℕ) where
  pub refused : (n line : ℕ) → verdict.Refused n line ≡ checked_output file output
      → (Refused n line ≡ write_answer file output) × (output ≡ output_after file output)
  unfolding write_answer output_after
  refused n line h = rw (← h) (refl, refl)

  module _ (p : DecodedProgram) (k : Passed file None (Some (length output)) None p) where
    pub accepted : Accepted ≡ checked_output file output
        → (Written (length (written (program_of p))) ≡ write_answer file output) × (output_by Accepted (program_of p) output ≡ output_after file output)
    unfolding write_answer output_after
    accepted h = rw (← h, k.program) (refl, refl)

    -- there is room for the program
    pub has_room : length (written (program_of p)) ≤ length output
    has_room = omega (arith, written_limited (program_of p) k.well_formed, k.sized.output_length)
