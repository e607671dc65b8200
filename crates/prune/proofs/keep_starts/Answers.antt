use native.Mathlib.Omega.{arith}
use Rattle.prune.proofs.KeptExact.{start_turn}
use Rattle.prune.proofs.keep_starts.Goals as goal

pub loop-q-preserved : goal.loop-q-preserved
loop-q-preserved c p e s =
    let z = c.requires.usable in
    let q = c.loop-q.q in
    start_turn _ z.0 _ (c.loop-q.invariant p e s) (omega arith) z.2 (e.starts q (omega (arith, z.1.states)))
    c.entry_of-at.ensures.0 c.keep_when.ensures
