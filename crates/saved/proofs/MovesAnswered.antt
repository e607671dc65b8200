-- The answers of the moves, by what the checks say.
use Rattle.std.proofs.Common.{◌≡◌, ℕ, ◌<◌, ◌≤◌, List, [], ◌∷◌, length, refl, ap, arith}
use Rattle.std.specs.Prelude.{Bool, true, false, Result, Ok, Err}
use borrow.Author.Tests.{lt-ltb, le-ltb}
use Rattle.program.specs.Program.{Program}
use Rattle.program.specs.Chosen.{sizes_of}
use Rattle.program.specs.Decoded.{program_of}
use Rattle.program.specs.Checks.{row, first_met, verdict_of}
use Rattle.program.specs.Verdicts.{Verdict, Accepted}
use Rattle.program.specs.Verdicts as verdict
use Rattle.program.specs.declared.DecodedProgram.{DecodedProgram}
use Rattle.program.specs.declared.refusal.Refusal.{Refusal}
use Rattle.program.specs.declared.refusal.Refusal.TheVariants.{OutputShort, ForeignSaved}
use Rattle.program.specs.declared.refusal.RefusedAt.{RefusedAt}
use Rattle.reach.specs.Configurations.{none_set}
use Rattle.analysis.specs.Answers.{same, on_success}
use Rattle.writer.specs.WriteAnswers.{Refused}
use Rattle.saved.specs.Answers.{Way, own, moved, given_marks, late_rows, written_by, at_start, early_checked, move_answer, move_output, move_work}
use Rattle.saved.specs.Parts.{Wrote, Moved, PassedEarly}

-- the code's refusals that have no line
abbrev pub without_line : Refusal → RefusedAt
without_line e = record { refusal = e; line = 0 }

-- ---- there is room for what is written, or not

module _ (t o : List ℕ) where
  pub short_refused : length o < length t → Wrote t o o (Err (without_line OutputShort))
  unfolding first_met
  short_refused h = rw (lt-ltb (length o) (length t) h) (record { answer = refl; output = refl })

  pub room_written : {out : List ℕ} {r : ℕ} → length t ≤ length o → r ≡ length t → out ≡ at_start t o → Wrote t o out (Ok r)
  unfolding first_met
  room_written h e f = rw (le-ltb (length o) (length t) h) (record { answer = rw e refl; output = f })

-- ---- what is given is the program's own, or not

module _ (way : Way) (p : Program) (given o : List ℕ) where
  pub foreign_refused : same given (own way p) ≡ false → Moved way p given o o (Err (without_line ForeignSaved))
  unfolding first_met
  foreign_refused e = rw e (record { answer = refl; output = refl })

  pub own_moved : {out : List ℕ} {r : Result ℕ RefusedAt} → same given (own way p) ≡ true → Wrote (moved way p) o out r → Moved way p given o out r
  unfolding first_met
  own_moved e w = rw e w

-- ---- the early checks

-- where they refuse nothing, none of their rows is met
pub early_passed : (large marks work : Bool) → 0 ≡ first_met (row 24 large ∷ row 9 marks ∷ row 11 work ∷ []) → (large ≡ false) × (marks ≡ false) × (work ≡ false)
unfolding first_met
early_passed true marks work e = absurd (omega arith)
early_passed false true work e = absurd (omega arith)
early_passed false false true e = absurd (omega arith)
early_passed false false false e = (refl, refl, refl)

module _ (way : Way) (file given output work : List ℕ) where
  -- a refusal is the answer, and leaves all that is lent
  pub early_refused : (n line : ℕ) → verdict.Refused n line ≡ early_checked way file given work
      → (Refused n line ≡ move_answer way file given output work) × (output ≡ move_output way file given output work)
      × (work ≡ move_work way file given work)
  unfolding move_answer move_output move_work
  early_refused n line h = rw (← h) (refl, refl, refl)

  pub move_answered : (p : DecodedProgram) → PassedEarly file (given_marks way given) (length work) p → Accepted ≡ early_checked way file given work
      → let q = program_of p in let w = verdict_of (first_met (late_rows way q given (length output))) in
      (written_by w (moved way q) ≡ move_answer way file given output work) × (on_success w (at_start (moved way q) output) output ≡ move_output way file given output work)
      × (none_set (sizes_of q) ≡ move_work way file given work)
  unfolding move_answer move_output move_work
  move_answered p k h = rw (← h, k.program) (refl, refl, ap (λ (q : Program). none_set (sizes_of q)) k.program)
