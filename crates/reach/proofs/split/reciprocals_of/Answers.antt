-- `reach::split::reciprocals_of` meets its contract.
use Rattle.reach.proofs.ProductsDivide.{node_short, routine_short}
use native.Mathlib.Omega.{arith}
use Rattle.reach.proofs.split.reciprocals_of.Goals as goal

pub reciprocal_of-node-requires : goal.reciprocal_of-node-requires
reciprocal_of-node-requires c =
    let e = c.node_span.ensures.0 in
    let h = node_short c.args.z c.requires.0 c.requires.1 in
    (omega (arith, e, h.0), omega (arith, e, h.1))

pub reciprocal_of-routine-requires : goal.reciprocal_of-routine-requires
reciprocal_of-routine-requires c =
    let e = c.routine_span.ensures.0 in
    let h = routine_short c.args.z c.requires.0 c.requires.1 in
    (omega (arith, e, h.0), omega (arith, e, h.1))

pub returns : goal.returns
returns c =
    record {
      by_root = c.reciprocal_of-root.ensures;
      by_node = rw c.node_span.ensures.0 at c.reciprocal_of-node.ensures;
      by_routine = rw c.routine_span.ensures.0 at c.reciprocal_of-routine.ensures;
    }
