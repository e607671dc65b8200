-- `outcome::finish` meets its contract: without a row the sizes decide, and with rows the table before them.
use Rattle.std.proofs.Common.{◌≡◌, ◌<◌, ap, sym, ◌∙◌, refl, arith, Result, Err}
use Rattle.std.proofs.lemmas.Result.{err_from_is_err_and}
use Rattle.rows.specs.Decoded.{fault_number, fault_pair}
use Rattle.rows.specs.declared.TableFault.{TableFault}
use Rattle.rows.specs.declared.TableFault.TheVariants.{NotMet, MetTwice}
use Rattle.program.specs.Reading.{refused_for, sizes_decide}
use Rattle.program.specs.Refusals.{refused_table}
use Rattle.outcome.specs.Outcome.{outcome_of}
use Rattle.outcome.proofs.FileFinished.{without_rows, table_refused, table_accepted}
use Rattle.outcome.proofs.finish.Goals as goal

pub returns-then-row_count-eq0 : goal.returns-then-row_count-eq0
returns-then-row_count-eq0 c =
    c.accept_sized.ensures ∙ without_rows _ _ (sym c.row_count.ensures ∙ c.if-row_count-eq0.true)

-- a fault is a refusal of the table, for its pair
refused_so : (f : TableFault) → outcome_of (Err (refused_table f)) ≡ refused_for (fault_number f) (fault_pair f)
refused_so (NotMet x) = refl
refused_so (MetTwice x) = refl

some_number : (f : TableFault) → 0 < fault_number f
some_number (NotMet x) = omega arith
some_number (MetTwice x) = omega arith

pub returns-in_err-transitions : goal.returns-in_err-transitions
returns-in_err-transitions c =
    let p = err_from_is_err_and c.from_residual.result c.from_residual.ensures.1 in
    let k = c.in_err-transitions.ensures in
    rw (p.1, p.2) (refused_so _ ∙ table_refused _ _ (λ z. c.if-row_count-eq0.false (c.row_count.ensures ∙ z)) k.refusal k.pair (some_number _))

pub returns : goal.returns
returns c =
    let k = c.in_ok-transitions.ensures in
    c.accept_sized-2.ensures
    ∙ ap sizes_decide c.with_transitions.ensures
    ∙ table_accepted _ _ (λ z. c.if-row_count-eq0.false (c.row_count.ensures ∙ z)) (sym k.refusal) k.transitions
