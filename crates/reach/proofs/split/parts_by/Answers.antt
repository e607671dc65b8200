-- `reach::split::parts_by` meets its contract.
use Prim.Native.Nat.{ℕ, ◌<◌, ◌/◌, ◌%◌}
use mathlib.Core.Path.{◌≡◌, ap, sym, ◌∙◌}
use native.Mathlib.Nat.{div-le_self}
use native.Mathlib.Omega.{arith}
use Rattle.reach.specs.Configurations.{routine_of, node_of, root_of, state_of}
use Rattle.reach.proofs.Numbers.{routine_small, divided_parts}
use Rattle.reach.proofs.ProductsDivide.{split_root, split_node, split_routine}
use borrow.Author.Rules.{rules}
use Rattle.reach.proofs.split.parts_by.Goals as goal
use Rattle.reach.proofs.split.parts_by.Goals.{After-quotient-f}

-- the three quotients are those of the number, divided again and again
module _ (c : After-quotient-f) where
  by_root : c.quotient-a.result ≡ c.args.i / c.args.z.states
  by_root = c.quotient-a.ensures ∙ split_root c.args.z c.requires.3 c.args.i c.requires.2

  by_node : c.quotient-b.result ≡ c.args.i / c.args.z.states / c.args.z.states
  by_node = c.quotient-b.ensures ∙ split_node c.args.z c.requires.3 c.args.i c.requires.2

  by_routine : c.quotient-f.result ≡ c.args.i / c.args.z.states / c.args.z.states / c.args.z.nodes
  by_routine = c.quotient-f.ensures ∙ split_routine c.args.z c.requires.3 c.args.i c.requires.2

  root_small : c.quotient-a.result < 65536
  root_small = omega (arith, c.requires.2, by_root, div-le_self c.args.i c.args.z.states)

  node_small : c.quotient-b.result < 65536
  node_small = omega (arith, root_small, by_node, by_root, div-le_self (c.args.i / c.args.z.states) c.args.z.states)

pub narrow-routine-requires : goal.narrow-routine-requires
unfolding routine_of
narrow-routine-requires c =
    let h = routine_small c.args.z c.requires.0 c.args.i c.requires.1 in
    let small : c.args.z.routines < 256 = search rules in
    omega (arith, h, small, by_routine c)

pub rest-node-requires : goal.rest-node-requires
rest-node-requires c =
    (omega (arith, c.requires.0.nodes), node_small (goal.at.rest-node-requires c).After-quotient-f, by_routine (goal.at.rest-node-requires c).After-quotient-f ∙ ap (λ (k : ℕ). k / c.args.z.nodes) (sym (by_node (goal.at.rest-node-requires c).After-quotient-f)))

pub rest-root-requires : goal.rest-root-requires
rest-root-requires c =
    (c.requires.0.states, root_small (goal.at.rest-root-requires c).After-quotient-f, by_node (goal.at.rest-root-requires c).After-quotient-f ∙ ap (λ (k : ℕ). k / c.args.z.states) (sym (by_root (goal.at.rest-root-requires c).After-quotient-f)))

pub rest-state-requires : goal.rest-state-requires
rest-state-requires c =
    (c.requires.0.states, c.requires.2, by_root (goal.at.rest-state-requires c).After-quotient-f)

pub returns : goal.returns
unfolding routine_of node_of root_of state_of
returns c =
    rw (
      c.narrow-routine.ensures ∙ by_routine (goal.at.returns c).After-quotient-f,
      c.rest-node.ensures ∙ ap (λ (k : ℕ). k % c.args.z.nodes) (by_node (goal.at.returns c).After-quotient-f),
      c.rest-root.ensures ∙ ap (λ (k : ℕ). k % c.args.z.states) (by_root (goal.at.returns c).After-quotient-f),
      c.rest-state.ensures,
    )
    (divided_parts c.args.z c.requires.0 c.args.i c.requires.1)
