-- `saved::checked_early` meets its contract: the file is read, and then the sizes are checked.
use Rattle.std.proofs.Common.{sym, ap, ◌∙◌}
use Rattle.std.specs.Prelude.{Some}
use Rattle.program.specs.Chosen.{sizes_of, numbers}
use Rattle.program.specs.Reading.{Outcome}
use Rattle.program.specs.Checks.{first_met, verdict_of, followed_by}
use Rattle.program.specs.Decoded.{program_of}
use Rattle.program.proofs.Theorems.{accepted_well_formed}
use Rattle.program.proofs.ChecksPassed.{has_length}
use Rattle.saved.specs.Saved.{old_sizes}
use Rattle.saved.specs.Answers.{early_rows}
use Rattle.saved.proofs.MovesAnswered.{early_passed}
use Rattle.saved.proofs.checked_early.Goals as goal

pub returns : goal.returns
returns c =
    let a = c.args in
    let p = program_of c.in_ok-program.program in
    let o = c.in_ok-program.ensures in
    let none = ap verdict_of c.in_ok-check_sizes.ensures in
    let w = early_passed _ _ _ c.in_ok-check_sizes.ensures in
    record {
      verdict = none ∙ ap (λ (x : Outcome). followed_by x.verdict (verdict_of (first_met (early_rows x.program a.marks a.work)))) o;
      passed =
          record {
            program = ap (λ (x : Outcome). x.program) o;
            well_formed = rw (ap (λ (x : Outcome). x.program) o) (accepted_well_formed a.file.now (sym (ap (λ (x : Outcome). x.verdict) o)));
            of_old = w.0;
            marks-length = has_length (numbers old_sizes) a.marks w.1;
            work_length = has_length (numbers (sizes_of p)) (Some a.work) w.2;
          };
    }
