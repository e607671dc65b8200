use mathlib.Core.Path.{◌∙◌, ap, sym}
use native.Mathlib.Omega.{arith}
use Rattle.automaton.specs.NextStates.{stayed_at}
use Rattle.base.proofs.BytesFilled.{filling_more, filling_all}
use Rattle.automaton.proofs.LabelsUnheard.{stayed_start, stayed_value, stayed_all}
use Rattle.automaton.proofs.next.stay_unheard.Goals as goal

pub loop-i-init : goal.loop-i-init
loop-i-init c =
    let n = c.args.n in
    rw c.from-i.ensures (stayed_start n.routines n.states n.actions c.args.heard.now c.args.sets.now c.requires)

pub bounds-sets-i : goal.bounds-sets-i
bounds-sets-i c = omega (arith, c.loop-i.invariant.len)

pub bounds-sets-i-in-loop-i : goal.bounds-sets-i-in-loop-i
bounds-sets-i-in-loop-i c = omega (arith, c.loop-i.invariant.len)

pub loop-i-preserved : goal.loop-i-preserved
loop-i-preserved c =
    let w = c.loop-i.invariant in
    let n = c.args.n in
    let i = c.loop-i.i in
    let hs = c.args.heard.now in
    let left = ap (stayed_at n.routines n.states n.actions hs i) (w.left i (omega arith)) in
    let rule = stayed_value n.routines n.states n.actions hs c.args.sets.now i _ (omega arith) (c.stayed_at.ensures ∙ left) in
    filling_more w (omega arith) rule

pub shape_of-sets : goal.shape_of-sets
shape_of-sets c = c.loop-i.invariant.len ∙ sym c.requires.size

pub returns : goal.returns
returns c r states actions ranged heard listed =
    let n = c.args.n in
    stayed_all r n.routines ranged listed heard (rw (states, actions) (filling_all c.loop-i.invariant (omega arith)))
