use Prim.Native.Nat.{ℕ}
use mathlib.Core.List.{List}
use native.Mathlib.Omega.{arith}
use borrow.Author.Rules.{rules}
use Rattle.text.proofs.NumbersGathered.{starts, count_le, goes_on, stops, fails, at_end, at_stop, at_odd, at_bad, at_more}
use Rattle.text.proofs.read_line.Goals as goal
use Rattle.text.proofs.read_line.Goals.{At-loop-i}

abbrev bytes : At-loop-i → List ℕ
bytes p = p.args.s.now

pub loop-i-init : goal.loop-i-init
loop-i-init c = rw c.no_line-l.ensures (starts _ _)

pub returns-then-s-i-eq10 : goal.returns-then-s-i-eq10
returns-then-s-i-eq10 c =
    stops _ _ _ _ c.loop-i.invariant (at_stop (bytes (goal.at.returns-then-s-i-eq10 c).At-loop-i) c.loop-i.i (search rules) c.if-s-i-eq10.true)

pub returns-then-s-j : goal.returns-then-s-j
returns-then-s-j c =
    fails _ _ _ _ c.loop-i.invariant _ c.no_line.ensures
    (at_odd (bytes (goal.at.returns-then-s-j c).At-loop-i) c.loop-i.i (search rules) c.if-s-i-eq10.false (search rules))

pub returns-in_default : goal.returns-in_default
returns-in_default c =
    let e = c.in_default.ensures.value in
    fails _ _ _ _ c.loop-i.invariant _ c.no_line.ensures
    (at_bad (bytes (goal.at.returns-in_default c).At-loop-i) c.loop-i.i (search rules) c.if-s-i-eq10.false (search rules) (omega (arith, e)))

pub grow-l-requires : goal.grow-l-requires
grow-l-requires c = omega (arith, count_le _ _ _ _ c.loop-i.invariant)

pub loop-i-preserved : goal.loop-i-preserved
loop-i-preserved c =
    let e = c.in-Some.ensures in
    rw (c.grow-l.ensures, e.value)
    (goes_on _ _ _ _ c.loop-i.invariant _
    (at_more (bytes (goal.at.loop-i-preserved c).At-loop-i) c.loop-i.i (search rules) c.if-s-i-eq10.false (search rules) (rw e.value at e.below)))

pub returns : goal.returns
returns c =
    fails _ _ _ _ c.loop-i.invariant _ c.no_line.ensures (at_end (bytes (goal.at.returns c).At-loop-i) c.loop-i.i (search rules))
