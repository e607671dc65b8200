-- `edit_turn::edit_line` meets its contract.
use borrow.Author.Rules.{rules}
use mathlib.Core.Logic.{⊎_elim}
use Rattle.transcript.specs.Transcript.{held_of}
use Rattle.transcript.proofs.ListParts.{line-within}
use Rattle.transcript.proofs.TurnsGiven.{gives_turn}
use Rattle.edit_turn.proofs.edit_line.Goals as goal

pub overflow_add-past : goal.overflow_add-past
overflow_add-past c =
    let a = c.args in
    ⊎_elim (λ w. search rules) (λ w. search rules) (line-within a.input.now a.at c.line_size.result c.line_size.ensures)

pub returns : goal.returns
returns c =
    let a = c.args in
    gives_turn a.input.now a.out.now a.at (held_of a.held) c.line_size.ensures c.line_at.ensures c.edit_held-edited.ensures
    c.put_edited.ensures
