-- `components::drop::visit` meets its contract.
use native.Mathlib.Omega.{arith}
use Rattle.components.proofs.TurnsTaken.{done_skipped, rank_skipped, at_turn, from_turn}
use Rattle.components.proofs.drop.visit.Goals as goal

pub returns-then-progress-f-ne0 : goal.returns-then-progress-f-ne0
returns-then-progress-f-ne0 c = λ old t. done_skipped t c.if-progress-f-ne0.true

pub work_component-requires : goal.work_component-requires
work_component-requires c =
    let z = c.requires in
    record {
      f_lt_max_routines = (omega arith, c.if-progress-f-ne0.false);
      comes = (z.0, at_turn z.1 c.rank.ensures c.if-rank-i.true);
    }

pub returns-then-rank-i : goal.returns-then-rank-i
returns-then-rank-i c =
    let e = c.rank.ensures in
    let r = c.if-rank-i.true in
    λ old t. from_turn t e r (c.work_component.ensures old (at_turn t e r))

pub returns-else-rank-i : goal.returns-else-rank-i
returns-else-rank-i c = λ old t. rank_skipped t c.rank.ensures c.if-rank-i.false
