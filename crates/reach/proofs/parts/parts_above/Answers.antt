-- `reach::parts::parts_above` meets its contract.
use Prim.Native.Nat.{ℕ, ◌+◌, ◌^◌, ◌<◌}
use mathlib.Core.Path.{◌≡◌}
use native.Mathlib.Omega.{arith}
use Rattle.reach.specs.Configurations.{number}
use Rattle.reach.specs.Parts.{root_start}
use Rattle.reach.proofs.PartsCounted.{node_span_some, routine_span_some, routine_in_range, above, numbers_fit}
use borrow.Author.Rules.{rules}
use Rattle.reach.proofs.parts.parts_above.Goals as goal
use Rattle.reach.proofs.parts.parts_above.Goals.{After-take_off-node, After-take_off-root, After-take_off-roots, Start}

pub take_off-routines-requires : goal.take_off-routines-requires
take_off-routines-requires c = rw c.requires.1.routine (routine_span_some c.args.z c.requires.0)

pub take_off-nodes-requires : goal.take_off-nodes-requires
take_off-nodes-requires c = rw c.requires.1.node (node_span_some c.args.z c.requires.0)

-- what lies above is below the length of the marks
more-small : (s : Start) → s.args.more < 2 ^ 32
more-small s =
    let h = numbers_fit s.args.z (search rules) (search rules) (search rules) in
    omega (arith, h, s.requires.2)

-- spans are taken off what is left, so that there are few of them
module _ (c : After-take_off-roots) where
  few : (c.take_off-roots.result.times < 2 ^ 32) × (c.take_off-nodes.result.times < 2 ^ 32)
      × (c.take_off-routines.result.times < 2 ^ 32)
  few =
      let m = more-small (goal.at.After-take_off-roots c).Start in
      let a = c.take_off-routines.ensures in
      let b = c.take_off-nodes.ensures in
      let d = c.take_off-roots.ensures in
      (omega (arith, m, a.is, b.is, d.few), omega (arith, m, a.is, b.few), omega (arith, m, a.few))

pub overflow_add-c : goal.overflow_add-c
overflow_add-c c = let byte : c.args.c.root < 256 = search rules in omega (arith, byte, (few (goal.at.overflow_add-c c).After-take_off-roots).0)

-- and so are those that are carried
module _ (c : After-take_off-root) where
  carried-few : c.take_off-root.result.times < 2 ^ 33
  carried-few =
      let byte : c.args.c.root < 256 = search rules in
      omega (arith, byte, (few (goal.at.After-take_off-root c).After-take_off-roots).0, c.take_off-root.ensures.few)

  bytes : (c.args.c.node < 256) × (c.args.c.routine < 256)
  bytes = (search rules, search rules)

pub overflow_add-c-2 : goal.overflow_add-c-2
overflow_add-c-2 c = omega (arith, (bytes (goal.at.overflow_add-c-2 c).After-take_off-root).0, (few (goal.at.overflow_add-c-2 c).After-take_off-roots).1)

pub overflow_add-c-3 : goal.overflow_add-c-3
overflow_add-c-3 c = omega (arith, (bytes (goal.at.overflow_add-c-3 c).After-take_off-root).0, (few (goal.at.overflow_add-c-3 c).After-take_off-roots).1, carried-few (goal.at.overflow_add-c-3 c).After-take_off-root)

-- the parts are those of the number
module _ (c : After-take_off-node) where
  routine-few : c.take_off-node.result.times < 2 ^ 34
  routine-few = omega (arith, (bytes (goal.at.After-take_off-node c).After-take_off-root).0, (few (goal.at.After-take_off-node c).After-take_off-roots).1, carried-few (goal.at.After-take_off-node c).After-take_off-root, c.take_off-node.ensures.few)

  abbrev routine : ℕ
  routine = c.args.c.routine + c.take_off-routines.result.times + c.take_off-node.result.times

  sum : number c.args.z routine c.take_off-node.result.left c.take_off-root.result.left c.take_off-roots.result.left
      ≡ root_start c.args.z c.args.c + c.args.more
  sum =
      above c.args.z c.requires.0 c.args.by c.requires.1 c.args.c.routine c.args.c.node c.args.c.root c.args.more _ _ _ _ _ _ _ _ _ _
      c.take_off-routines.ensures
      c.take_off-nodes.ensures
      c.take_off-roots.ensures
      c.take_off-root.ensures
      c.take_off-node.ensures

  routine_fits : routine < c.args.z.routines
  routine_fits =
      routine_in_range c.args.z c.requires.0 routine c.take_off-node.result.left c.take_off-root.result.left c.take_off-roots.result.left (omega (arith, sum, c.requires.2))

pub overflow_add-result : goal.overflow_add-result
overflow_add-result c = omega (arith, (bytes (goal.at.overflow_add-result c).After-take_off-root).1, (few (goal.at.overflow_add-result c).After-take_off-roots).2)

pub overflow_add-result-2 : goal.overflow_add-result-2
overflow_add-result-2 c =
    omega (arith, (bytes (goal.at.overflow_add-result-2 c).After-take_off-root).1, (few (goal.at.overflow_add-result-2 c).After-take_off-roots).2, routine-few (goal.at.overflow_add-result-2 c).After-take_off-node)

pub overflow_cast-result-2 : goal.overflow_cast-result-2
overflow_cast-result-2 c =
    let byte : c.args.z.routines < 256 = search rules in
    omega (arith, byte, routine_fits (goal.at.overflow_cast-result-2 c).After-take_off-node)

pub returns : goal.returns
returns c =
    record {
      in_range =
          record {
            routine = routine_fits (goal.at.returns c).After-take_off-node;
            node = c.take_off-node.ensures.less;
            root = c.take_off-root.ensures.less;
            state = c.take_off-roots.ensures.less;
          };
      is = sum (goal.at.returns c).After-take_off-node;
    }
