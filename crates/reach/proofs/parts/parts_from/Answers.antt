-- `reach::parts::parts_from` meets its contract.
use Prim.Native.Nat.{ℕ, ◌+◌, ◌-◌}
use mathlib.Core.Path.{◌≡◌, subst}
use native.Mathlib.Omega.{arith}
use Rattle.reach.specs.Configurations.{PartsOf}
use Rattle.reach.specs.Parts.{root_start}
use Rattle.reach.proofs.Numbers.{number_state}
use Rattle.reach.proofs.PartsCounted.{from_first}
use Rattle.reach.proofs.parts.parts_from.Goals as goal
use Rattle.reach.proofs.parts.parts_from.Goals.{Else-i-start, Start}

-- the first state of a root lies as many numbers below as the state says
root-start : (s : Start) → root_start s.args.z s.args.c + s.args.c.state ≡ s.args.at
root-start s =
    let c = s.args.c in
    omega (arith, number_state s.args.z c.routine c.node c.root c.state, s.requires.2.is)

pub overflow_sub-start : goal.overflow_sub-start
overflow_sub-start c = omega (arith, root-start (goal.at.overflow_sub-start c).Start)

pub parts_above-requires : goal.parts_above-requires
parts_above-requires c =
    let e = from_first c.args.z c.first_parts.result c.first_parts.ensures c.args.i in
    (c.requires.0, c.requires.1, rw e c.requires.3)

pub returns-then-i-start : goal.returns-then-i-start
returns-then-i-start c =
    let r = c.parts_above.result in
    let e = from_first c.args.z c.first_parts.result c.first_parts.ensures c.args.i in
    subst (λ (i : ℕ). PartsOf c.args.z i r.routine r.node r.root r.state) e c.parts_above.ensures

-- a number that is not below that first state lies this much above it
above-start : (c : Else-i-start) → root_start c.args.z c.args.c + (c.args.i - (c.args.at - c.args.c.state)) ≡ c.args.i
above-start c = omega (arith, root-start (goal.at.Else-i-start c).Start, c.if-i-start.false)

pub parts_above-requires-2 : goal.parts_above-requires-2
parts_above-requires-2 c =
    (c.requires.0, c.requires.1, rw (above-start c) c.requires.3)

pub returns : goal.returns
returns c =
    let r = c.parts_above-2.result in
    subst (λ (i : ℕ). PartsOf c.args.z i r.routine r.node r.root r.state) (above-start (goal.at.returns c).Else-i-start) c.parts_above-2.ensures
