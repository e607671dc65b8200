use native.Mathlib.Omega.{arith}
use Rattle.words.proofs.FirstFlagFound.{none_lower, none_more, first_found, none_found}
use Rattle.words.proofs.first_set.Goals as goal

pub loop-i-init : goal.loop-i-init
loop-i-init c = none_lower _ (omega arith) c.requires.none_below

pub returns-then-word-ne0 : goal.returns-then-word-ne0
returns-then-word-ne0 c =
    let i = c.loop-i.i in
    let ws = c.args.words.now in
    first_found ws i (omega arith) c.loop-i.invariant (omega (arith, c.type_inv.words i)) c.if-word-ne0.true

pub loop-i-preserved : goal.loop-i-preserved
loop-i-preserved c =
    none_more c.args.words.now c.loop-i.i c.loop-i.invariant c.if-word-ne0.false

pub returns : goal.returns
returns c =
    none_found c.args.words.now c.loop-i.i c.loop-i-test.false c.loop-i.invariant
