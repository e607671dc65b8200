use Rattle.analysis.proofs.AnswersByChecks.{own_accepted, foreign_refused}
use Rattle.program.specs.Decoded.{program_of}
use mathlib.Core.Path.{sym, ◌∙◌}
use Rattle.analysis.proofs.check_own.Goals as goal

pub returns-then-is_own : goal.returns-then-is_own
returns-then-is_own c =
    let o = c.is_own.ensures in
    (own_accepted (program_of c.args.p) _ (sym o.0 ∙ c.if-is_own.true), o.1)

pub returns-else-is_own : goal.returns-else-is_own
returns-else-is_own c =
    let o = c.is_own.ensures in
    (foreign_refused (program_of c.args.p) _ (sym o.0 ∙ c.if-is_own.false), o.1)
