-- `edit_turn::line_at` meets its contract.
use borrow.Author.Rules.{rules}
use Rattle.transcript.proofs.ListParts.{line_ends, line_is}
use Rattle.edit_turn.proofs.line_at.Goals as goal

pub overflow_add-next : goal.overflow_add-next
overflow_add-next c =
    let h = line_ends c.args.input.now c.within-from.result c.line_size.result c.within-from.ensures.inside c.line_size.ensures in
    search rules

pub slice_bounds-result-end : goal.slice_bounds-result-end
slice_bounds-result-end c =
    let h = line_ends c.args.input.now c.within-from.result c.line_size.result c.within-from.ensures.inside c.line_size.ensures in
    search rules

pub returns : goal.returns
returns c = line_is c.args.input.now c.within-from.ensures c.line_size.ensures
