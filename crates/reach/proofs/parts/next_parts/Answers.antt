-- `reach::parts::next_parts` meets its contract.
use native.Mathlib.Omega.{arith}
use Rattle.reach.proofs.PartsCounted.{next-state, next_root, next_node, next_routine}
use Rattle.reach.proofs.parts.next_parts.Goals as goal

pub returns-then-c-z : goal.returns-then-c-z
returns-then-c-z c =
    let h = c.requires in
    record { node = h.node; root = h.root; state = c.if-c-z.true; is = next-state h }

pub returns-then-c-z-2 : goal.returns-then-c-z-2
returns-then-c-z-2 c =
    let h = c.requires in
    record { node = h.node; root = c.if-c-z-2.true; state = omega (arith, h.state); is = next_root h c.if-c-z.false }

pub returns-then-c-z-3 : goal.returns-then-c-z-3
returns-then-c-z-3 c =
    let h = c.requires in
    record { node = c.if-c-z-3.true; root = omega (arith, h.root); state = omega (arith, h.state); is = next_node h c.if-c-z.false c.if-c-z-2.false }

pub returns : goal.returns
returns c =
    let h = c.requires in
    record {
      node = omega (arith, h.node);
      root = omega (arith, h.root);
      state = omega (arith, h.state);
      is = next_routine h c.if-c-z.false c.if-c-z-2.false c.if-c-z-3.false;
    }
