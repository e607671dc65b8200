use Rattle.passes.proofs.RoundsClose.{grown_ready, round_none, round_turn}
use Rattle.passes.proofs.round.Goals as goal

pub loop-f-init : goal.loop-f-init
loop-f-init c = round_none c.requires.0

pub turn-requires : goal.turn-requires
turn-requires c =
    let z = c.requires in
    record { f_lt_routines = c.loop-f-test.true; ready = (grown_ready z.0 c.loop-f.invariant.grows, z.1) }

pub loop-f-preserved : goal.loop-f-preserved
loop-f-preserved c = round_turn c.requires.0 c.loop-f.invariant c.turn.ensures
