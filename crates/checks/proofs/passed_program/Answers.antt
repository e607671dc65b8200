-- `checks::passed_program` meets its contract: the file is read, and then the lengths are measured.
use Rattle.std.proofs.Common.{◌≡◌, ℕ, ◌≤◌, ◌∷◌, [], Bool, true, false, sym, ap, subst, ◌∙◌, arith}
use Rattle.std.proofs.lemmas.Result.{err_from_is_err_and}
use borrow.Author.Tests.{ne_eqb}
use Rattle.program.specs.Sizes.{output_size}
use Rattle.program.specs.Program.{Program}
use Rattle.program.specs.Chosen.{sizes_of, numbers}
use Rattle.program.specs.Reading.{Outcome}
use Rattle.program.specs.Checks.{Length, row, first_met, buffer_rows, other_than, under, checked_by, checked, verdict_of, Sized}
use Rattle.rows.specs.Rows.{no_pair}
use Rattle.program.specs.Refusals.{number, pair_in}
use Rattle.program.specs.Verdicts.{Refused}
use Rattle.program.specs.declared.refusal.Refusal.{Refusal}
use Rattle.program.proofs.ChecksPassed.{passes}
use Rattle.program.proofs.RefusalNumbers.{some_number, line_alone}
use Rattle.checks.proofs.passed_program.Goals as goal
use Rattle.checks.proofs.passed_program.Goals.{After-check_lengths}

pub returns-in_err-program : goal.returns-in_err-program
unfolding checked
returns-in_err-program c =
    let a = c.args in
    let p = err_from_is_err_and c.from_residual.result c.from_residual.ensures.1 in
    rw (p.1, p.2) (record {
      verdict = ap (λ (o : Outcome). checked_by o.verdict (numbers (sizes_of o.program)) a.marks a.output a.work) c.in_err-program.ensures;
      pair = ap (λ (o : Outcome). o.pair) c.in_err-program.ensures;
      passed = tt;
    })

-- the lengths are refused by 9, 10 and 11
lengths_alone : (size : ℕ) (marks output work : Length) → first_met (buffer_rows size marks output work) ≤ 11
unfolding first_met
lengths_alone size marks output work = go (other_than size marks) (under output_size output) (other_than size work)
  where
    go : (t u w : Bool) → first_met (row 9 t ∷ row 10 u ∷ row 11 w ∷ []) ≤ 11
    go true u w = omega arith
    go false true w = omega arith
    go false false true = omega arith
    go false false false = omega arith

-- such a refusal has no pair
told_alone : (r : Refusal) {n : ℕ} → number r ≡ n → n ≤ 11 → pair_in r ≡ no_pair
told_alone r m h = line_alone r (omega (arith, m, h))

-- an accepted file is checked for the lengths
measured : (c : After-check_lengths)
    → verdict_of (first_met (buffer_rows c.length_of-size.result c.args.marks c.args.output c.args.work))
    ≡ checked c.args.file.now c.args.marks c.args.output c.args.work
unfolding checked
measured c =
    let a = c.args in
    let size = c.length_of-size.ensures.0 ∙ ap numbers c.sizes_of.ensures in
    ap (λ (n : ℕ). verdict_of (first_met (buffer_rows n a.marks a.output a.work))) size
    ∙ ap (λ (o : Outcome). checked_by o.verdict (numbers (sizes_of o.program)) a.marks a.output a.work) c.in_ok-program.ensures

-- a refusal is a verdict with line 0
refused : (r : Refusal) → Refused (number r) 0 ≡ verdict_of (number r)
refused r = rw (ne_eqb (number r) 0 (λ e. omega (arith, some_number r)))

pub returns-in_err-check_lengths : goal.returns-in_err-check_lengths
returns-in_err-check_lengths c =
    let a = c.args in
    let m = c.in_err-check_lengths.ensures in
    let alone = told_alone _ m (lengths_alone c.length_of-size.result a.marks a.output a.work) in
    let r = c.from_residual-in_err-check_lengths in
    let p = err_from_is_err_and r.result r.ensures.1 in
    rw (p.1, p.2) (record {
      pair = alone ∙ ap (λ (o : Outcome). o.pair) c.in_ok-program.ensures;
      verdict = refused _ ∙ ap verdict_of m ∙ measured (goal.at.returns-in_err-check_lengths c).After-check_lengths;
      passed = tt;
    })

pub returns : goal.returns
returns c =
    let a = c.args in
    let k = ap verdict_of c.in_ok-check_lengths.ensures ∙ measured (goal.at.returns c).After-check_lengths in
    let w = passes a.file.now a.marks a.output a.work (sym k) in
    let e = ap (λ (o : Outcome). o.program) c.in_ok-program.ensures in
    record {
      verdict = k;
      pair = ap (λ (o : Outcome). o.pair) c.in_ok-program.ensures;
      passed =
          record {
            program = e;
            well_formed = rw e w.well_formed;
            sized = subst (λ (p : Program). Sized (numbers (sizes_of p)) a.marks a.output a.work) (sym e) w.sized;
          };
    }
