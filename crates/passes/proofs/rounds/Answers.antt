use Rattle.passes.proofs.RoundsClose.{grows_none, grown_ready, grows_then, rounds_less, rounds_end}
use mathlib.Core.Path.{sym, ◌∙◌}
use native.Mathlib.Omega.{arith}
use Rattle.passes.proofs.rounds.Goals as goal

pub loop-z-init : goal.loop-z-init
loop-z-init c = grows_none c.requires.0

pub count_set-before-requires : goal.count_set-before-requires
count_set-before-requires c = tt

pub round-requires : goal.round-requires
round-requires c =
    let z = c.requires in
    (grown_ready z.0 c.loop-z.invariant, z.1)

pub count_set-after-requires : goal.count_set-after-requires
count_set-after-requires c = tt

pub shape_of-marks-then-after-before : goal.shape_of-marks-then-after-before
shape_of-marks-then-after-before c =
    c.round.ensures.grows.marks-length ∙ sym c.requires.0.marks-length

pub returns-then-after-before : goal.returns-then-after-before
returns-then-after-before c =
    rounds_end c.requires.0 c.loop-z.invariant c.round.ensures
    (omega (arith, c.count_set-after.ensures, c.count_set-before.ensures, c.if-after-before.true))

pub loop-z-smaller : goal.loop-z-smaller
loop-z-smaller c =
    let h = grown_ready c.requires.0 c.loop-z.invariant in
    rounds_less h c.round.ensures.grows c.count_set-after.ensures c.count_set-before.ensures c.if-after-before.false

pub loop-z-preserved : goal.loop-z-preserved
loop-z-preserved c =
    grows_then c.requires.0 c.loop-z.invariant c.round.ensures.grows
