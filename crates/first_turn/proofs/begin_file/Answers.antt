-- `first_turn::begin_file` meets its contract.
use mathlib.Core.Path.{◌≡◌, sym}
use lib.ListN.{length}
use borrow.Author.Rules.{rules}
use Rattle.transcript.proofs.ListParts.{file_counted}
use Rattle.transcript.proofs.TurnsGiven.{gives_refusal, gives_block}
use Rattle.first_turn.proofs.begin_file.Goals as goal

pub slice_bounds-held_at_first-end : goal.slice_bounds-held_at_first-end
slice_bounds-held_at_first-end c = (file_counted _ _ c.file_size-end.ensures).1

pub returns-in-Err : goal.returns-in-Err
returns-in-Err c =
    let a = c.args in
    let n : length a.out.now ≡ 180235 = search rules in
    gives_refusal a.input.now a.out.now c.file_size-end.ensures (sym c.in-Err.ensures.verdict) (rw n at c.file_refusal.ensures) c.nothing_more.ensures

pub returns-in-Ok : goal.returns-in-Ok
returns-in-Ok c =
    let k = c.in-Ok.ensures in
    gives_block c.args.input.now c.args.out.now c.file_size-end.ensures (sym k.verdict) k.held c.put_held.ensures
