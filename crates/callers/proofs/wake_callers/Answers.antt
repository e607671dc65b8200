use Rattle.base.specs.Searches.{seek}
use Rattle.index.specs.Index.{calls_one}
use Rattle.base.proofs.NumbersSought.{seek_at_least}
use Rattle.program.specs.declared.sizes.Sizes.{Sizes}
use Rattle.program.specs.Decoded.{edge_of}
use Rattle.callers.specs.Parts.{caller_step}
use Rattle.marking.proofs.StepsMark.{loop_end}
use Rattle.marking.proofs.EdgesChased.{Passes, chase_start, chase_turn}
use Rattle.callers.proofs.CallersWoken.{caller_here, caller_other}
use mathlib.Core.Path.{◌≡◌, refl, ◌∙◌}
use mathlib.Core.List.{List}
use lib.ListN.{length, get_or}
use native.Mathlib.Omega.{arith}
use Prim.Native.Nat.{ℕ, ◌+◌, ◌-◌}
use Rattle.callers.proofs.wake_callers.Goals as goal
use Rattle.callers.proofs.wake_callers.Goals.{After-next_caller-i}

passed : (z : Sizes) (next : List ℕ) (f r : ℕ) (keys : List ℕ)
    → Passes (calls_one keys f) (λ j. caller_step z next f r (edge_of (get_or keys j 0)))
passed z next f r keys = record { passes = λ x e s. caller_other z next f r keys x e s }

pub loop-i-init : goal.loop-i-init
loop-i-init c =
    let a = c.args in
    chase_start _ _ _ (passed a.z a.next.now a.f a.r a.keys.now)
    (c.first_caller-i.ensures ∙ c.requires.0.first_caller a.f c.requires.1)

-- the index has the next edge that calls the routine
chained : (c : After-next_caller-i)
    → let a = c.args in
    c.next_caller-i.result ≡ seek (calls_one a.keys.now a.f) (length a.keys.now - (c.loop-i.i + 1)) (c.loop-i.i + 1)
chained c =
    let h = c.loop-i-test in
    let meets = c.loop-i.invariant.meets (omega arith) in
    c.next_caller-i.ensures ∙ c.requires.0.next_caller c.args.f c.loop-i.i c.requires.1 (omega arith) meets

pub loop-i-smaller : goal.loop-i-smaller
loop-i-smaller c =
    let a = c.args in
    let i = c.loop-i.i in
    let past = seek_at_least (calls_one a.keys.now a.f) (length a.keys.now - (i + 1)) (i + 1) in
    omega (arith, c.loop-i-test, chained c, past)

pub loop-i-preserved : goal.loop-i-preserved
loop-i-preserved c =
    let a = c.args in
    let w = c.wake_states-lowest in
    let h = c.loop-i-test in
    let meets = c.loop-i.invariant.meets (omega arith) in
    chase_turn c.loop-i.invariant (passed a.z a.next.now a.f a.r a.keys.now) (omega arith)
    (caller_here a.z a.next.now a.f a.r a.keys.now c.loop-i.i meets (rw c.edge-e.ensures at w.ensures.0))
    w.ensures.1 refl w.auto.pending (chained c)

pub returns : goal.returns
returns c = loop_end c.loop-i.invariant.looping (omega arith)
