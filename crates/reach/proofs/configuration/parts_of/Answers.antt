-- `reach::configuration::parts_of` meets its contract.
use Prim.Native.Nat.{◌<◌}
use native.Mathlib.Omega.{arith}
use Rattle.reach.specs.Configurations.{routine_of, node_of, root_of, state_of}
use Rattle.reach.proofs.Numbers.{routine_small, divided_parts}
use borrow.Author.Rules.{rules}
use Rattle.reach.proofs.configuration.parts_of.Goals as goal

pub narrow-routine-requires : goal.narrow-routine-requires
unfolding routine_of
narrow-routine-requires c = let h = routine_small c.args.z c.requires.0 c.args.i c.requires.1 in
    let small : c.args.z.routines < 256 = search rules in
    rw (c.high_digits.ensures, c.high_digits-b.ensures, c.high_digits-a.ensures) (omega arith)

pub returns : goal.returns
unfolding routine_of node_of root_of state_of
returns c = rw (
  c.low_digit-state.ensures,
  c.low_digit-root.ensures,
  c.low_digit-node.ensures,
  c.narrow-routine.ensures,
  c.high_digits.ensures,
  c.high_digits-b.ensures,
  c.high_digits-a.ensures,
)
    (divided_parts c.args.z c.requires.0 c.args.i c.requires.1)
