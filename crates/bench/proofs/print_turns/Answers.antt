use native.Mathlib.Omega.{arith}
use borrow.Author.Rules.{rules}
use Rattle.transcript.specs.Transcript.{held_of}
use Rattle.transcript.proofs.TextLimits.{begun_short, turned_short, turn_advances}
use Rattle.bench.proofs.print_turns.Goals as goal

pub loop-turn-init : goal.loop-turn-init
loop-turn-init g c =
    let n = c.begin-turn.array_long in (n, omega (arith, n, c.begin-turn.ensures.printed.0, begun_short c.args.input.now))

pub loop-turn-smaller : goal.loop-turn-smaller
loop-turn-smaller g c =
    let h = turn_advances _ (held_of c.loop-turn.turn.held) c.loop-turn-test.true c.edit_line-turn.ensures in
    search rules

pub loop-turn-preserved : goal.loop-turn-preserved
loop-turn-preserved g c =
    let n = c.edit_line-turn.array_long in
    let t = turned_short c.args.input.now c.loop-turn.turn.next (held_of c.loop-turn.turn.held) in
    (n, omega (arith, n, c.edit_line-turn.ensures.printed.0, t))
