use mathlib.Core.Path.{sym, ◌∙◌}
use native.Mathlib.Omega.{arith}
use borrow.Author.Rules.{rules}
use Rattle.input.proofs.LineEnds.{file_start, file_more, file_stop, file_end, line_inside}
use Rattle.input.proofs.file_size.Goals as goal

pub loop-at-init : goal.loop-at-init
loop-at-init c = file_start _

pub overflow_add-next : goal.overflow_add-next
overflow_add-next c =
    let h = line_inside _ _ _ c.loop-at-test.true c.line_size.ensures in
    search rules

pub returns-then-starts_end : goal.returns-then-starts_end
returns-then-starts_end c =
    file_stop c.loop-at.invariant c.loop-at-test.true _ c.line_size.ensures (sym c.starts_end.ensures ∙ c.if-starts_end.true)

pub loop-at-smaller : goal.loop-at-smaller
loop-at-smaller c =
    let h = line_inside _ _ _ c.loop-at-test.true c.line_size.ensures in
    search rules

pub loop-at-preserved : goal.loop-at-preserved
loop-at-preserved c =
    file_more c.loop-at.invariant c.loop-at-test.true _ c.line_size.ensures (sym c.starts_end.ensures ∙ c.if-starts_end.false)

pub returns : goal.returns
returns c = file_end c.loop-at.invariant (omega arith)
