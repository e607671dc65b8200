use mathlib.Core.Path.{◌≡◌, refl, sym, ap, ◌∙◌}
use Prim.Native.Nat.{ℕ, ◌+◌, ◌*◌}
use native.Mathlib.Omega.{arith}
use native.Mathlib.Nat.{add-mul}
use Rattle.prune.proofs.PassesKeep.{pass_none, pass_on, pass_between}
use Rattle.program.specs.Chosen.{numbers}
use Rattle.reach.proofs.Numbers.{all_routines}
use Rattle.reach.specs.Sizes.{routine_span}
use Rattle.prune.proofs.keep_pass.Goals as goal

pub loop-f-init : goal.loop-f-init
loop-f-init c =
    let z = c.requires.usable.0 in
    pass_between _ z refl (omega arith) (pass_none _ z _ _ 0)

pub loop-f-preserved : goal.loop-f-preserved
loop-f-preserved c =
    let z = c.requires.usable.0 in
    let f = c.loop-f.f in
    let span = routine_span c.args.z in
    let e : f * span + span ≡ (f + 1) * span = omega (arith, add-mul f 1 span) in
    pass_between _ z refl e (pass_on _ z _ _ c.loop-f.invariant c.keep_routine-more.ensures)

pub returns : goal.returns
returns c =
    let z = c.requires.usable.0 in
    let span = routine_span c.args.z in
    let f : c.loop-f.f ≡ c.args.z.routines = omega arith in
    let e : c.loop-f.f * span ≡ numbers c.args.z = ap (λ (x : ℕ). x * span) f ∙ sym (all_routines c.args.z z) in
    pass_between _ z refl e c.loop-f.invariant
