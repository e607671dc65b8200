use mathlib.Core.Path.{◌≡◌, ◌∙◌}
use Prim.Native.Nat.{◌+◌, ◌*◌, ◌<◌}
use native.Mathlib.Omega.{arith}
use Rattle.prune.proofs.PassesKeep.{pass_none, pass_turn, pass_between}
use Rattle.prune.proofs.KeptExact.{keeps_free}
use Rattle.reach.specs.Sizes.{routine_span}
use Rattle.program.specs.Chosen.{numbers}
use Rattle.reach.proofs.Numbers.{first_number, routine_fits, in_routine}
use Rattle.prune.proofs.keep_numbers.Goals as goal
use Rattle.prune.proofs.keep_numbers.Goals.{At-loop-i}

-- the first number of the routine
first : (p : At-loop-i) → p.number_of-first.result ≡ p.args.f * routine_span p.args.z
first p = let a = p.args in p.number_of-first.ensures.0 ∙ first_number a.z a.f

pub loop-i-init : goal.loop-i-init
loop-i-init c = pass_none _ c.requires.usable.0 _ _ _

pub keep_at-more-requires-clause-usable : goal.keep_at-more-requires-clause-usable
keep_at-more-requires-clause-usable c =
    let a = c.args in
    let z = c.requires.usable in
    let span = c.routine_span.ensures.0 in
    let fits = routine_fits a.z a.f z.2 in
    let low = first (goal.at.keep_at-more-requires-clause-usable c).At-loop-i in
    let e = in_routine a.z z.0 a.f c.loop-i.i (omega (arith, low)) (omega (arith, low, span)) in
    (z.0, z.1, omega (arith, low, span, fits), rw e z.3)

pub loop-i-preserved : goal.loop-i-preserved
loop-i-preserved c =
    let a = c.args in
    let z = c.requires in
    let l = c.loop-i in
    let low = first (goal.at.loop-i-preserved c).At-loop-i in
    let h : l.i < numbers a.z = omega (arith, low, c.routine_span.ensures.0, routine_fits a.z a.f z.usable.2) in
    let e = c.keep_at-more.ensures in
    pass_turn _ z.usable.0 _ l.invariant h (omega (arith, l.invariant.len, z.marks_len.1))
    (keeps_free _ z.usable.0 _ _ _ _ _) _ e.0 e.1

pub returns : goal.returns
returns c =
    let a = c.args in
    let low = first (goal.at.returns c).At-loop-i in
    let e : c.loop-i.i ≡ a.f * routine_span a.z + routine_span a.z = omega (arith, low, c.routine_span.ensures.0) in
    pass_between _ c.requires.usable.0 low e c.loop-i.invariant
