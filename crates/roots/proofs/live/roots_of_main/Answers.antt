use Rattle.automaton.specs.Sizes.{max_states}
use Rattle.callgraph.proofs.FlagsClosed.{turning_turn, turning_end}
use borrow.Author.Rules.{rules}
use native.Mathlib.Omega.{arith}
use Prim.Native.Nat.{◌<◌}
use mathlib.Core.Path.{◌≡◌}
use lib.ListN.{length, take}
use lib.Seq.{get_or-take, length-take-le}
use Rattle.roots.proofs.live.roots_of_main.Goals as goal
use Rattle.roots.proofs.live.roots_of_main.Goals.{After-in_use}

room : (c : After-in_use) → length c.args.initial.list ≡ max_states
room c = search rules

-- the states that are gone through are those in use
used : (c : After-in_use) → length (take c.in_use.result c.args.initial.list) ≡ c.in_use.result
used c = length-take-le c.in_use.result c.args.initial.list (omega (arith, room c, c.in_use.ensures))

pub loop-q-preserved : goal.loop-q-preserved
loop-q-preserved c =
    let i = c.loop-q.q-index in
    let h : i < c.in_use.result = omega (arith, used (goal.at.loop-q-preserved c).After-in_use) in
    let place = rw (get_or-take c.in_use.result c.args.initial.list i 0 h) at c.root_place.ensures in
    turning_turn c.loop-q.invariant (omega arith) (rw place at c.set_flag.ensures) c.set_flag.auto.flags

pub returns : goal.returns
returns c =
    let u = (goal.at.returns c).After-in_use in
    (room u, rw (used u, c.in_use.ensures) at (turning_end c.loop-q.invariant (omega arith)))
