-- `first_turn::begin` meets its contract.
use mathlib.Core.Path.{◌≡◌}
use lib.ListN.{length}
use borrow.Author.Rules.{rules}
use Rattle.transcript.proofs.TurnsGiven.{gives_too_long, gives_file}
use Rattle.first_turn.proofs.begin.Goals as goal

pub returns-then-input-gt-INPUT_SIZE : goal.returns-then-input-gt-INPUT_SIZE
returns-then-input-gt-INPUT_SIZE c =
    let a = c.args in
    let n : length a.out.now ≡ 180235 = search rules in
    gives_too_long a.input.now a.out.now c.if-input-gt-INPUT_SIZE.true (rw n at c.edit_refusal.ensures) c.nothing_more.ensures

pub returns-else-input-gt-INPUT_SIZE : goal.returns-else-input-gt-INPUT_SIZE
returns-else-input-gt-INPUT_SIZE c =
    gives_file c.args.input.now c.args.out.now c.if-input-gt-INPUT_SIZE.false c.begin_file.ensures
