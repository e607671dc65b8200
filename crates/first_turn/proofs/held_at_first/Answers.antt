-- `first_turn::held_at_first` meets its contract: the file is checked, and then analyzed with as many marks as its
-- program has.
use Rattle.std.proofs.Common.{◌≡◌, ℕ, ◌≤◌, sym, ap, ◌∙◌, arith, length, take, replicate}
use Rattle.std.proofs.lemmas.Result.{err_from_is_err_and}
use Rattle.program.specs.Chosen.{sizes_of, numbers}
use Rattle.program.specs.Program.{Program}
use Rattle.program.specs.Reading.{read_file}
use Rattle.program.specs.Verdicts.{Accepted}
use Rattle.program.proofs.ChosenSizes.{admitted}
use Rattle.transcript.proofs.AnswersPrinted.{unchecked, zeros_counted, front_part, analyze_refuses, fresh_after}
use Rattle.first_turn.proofs.held_at_first.Goals as goal
use Rattle.first_turn.proofs.held_at_first.Goals.{After-length_of-size}

pub returns-in_err-program-clause-verdict : goal.returns-in_err-program-clause-verdict
returns-in_err-program-clause-verdict c =
    let p = err_from_is_err_and c.from_residual.result c.from_residual.ensures.1 in
    rw (p.1, p.2) (c.in_err-program.ensures.verdict ∙ unchecked c.args.file.now)

module _ (c : After-length_of-size) where
  accepted : (read_file c.args.file.now).verdict ≡ Accepted
  accepted = sym (c.in_ok-program.ensures.verdict ∙ unchecked c.args.file.now)

  few : c.length_of-size.result ≤ 16384
  few =
      let own = c.length_of-size.ensures.0 ∙ ap numbers c.sizes_of.ensures in
      omega (arith, own, (admitted _ c.in_ok-program.ensures.passed.well_formed).product)

  -- as many marks as the file's program has
  long : length {A = ℕ} (take c.length_of-size.result (replicate 16384 0)) ≡ numbers (sizes_of (read_file c.args.file.now).program)
  long =
      sym (zeros_counted _ few) ∙ c.length_of-size.ensures.0 ∙ ap numbers c.sizes_of.ensures
      ∙ ap (λ (p : Program). numbers (sizes_of p)) c.in_ok-program.ensures.passed.program

pub returns-in_err-analyze-clause-verdict : goal.returns-in_err-analyze-clause-verdict
returns-in_err-analyze-clause-verdict c =
    let r = c.from_residual-in_err-analyze in
    let p = err_from_is_err_and r.result r.ensures.1 in
    let n = long (goal.at.returns-in_err-analyze-clause-verdict c).After-length_of-size in
    rw (p.1, p.2) (sym (analyze_refuses c.args.file.now _ _ (λ e. n) (λ e. n) c.in_err-analyze.ensures.0))

pub returns-clause-verdict : goal.returns-clause-verdict
returns-clause-verdict c = sym (accepted (goal.at.returns-clause-verdict c).After-length_of-size)

pub returns-clause-held : goal.returns-clause-held
returns-clause-held c =
    let s = (goal.at.returns-clause-held c).After-length_of-size in
    let n = long s in
    let marks =
    front_part _ _ (c.analyze.auto.marks ∙ sym (zeros_counted _ (few s))) ∙ c.in_ok-analyze.ensures.1
    ∙ fresh_after c.args.file.now _ _ (λ e. n) (λ e. n) (accepted s) in
    c.hold.ensures ∙ (λ i. record { file = c.args.file.now; marks = marks i })
