-- `kept::caller_kept` meets its contract.
use mathlib.Core.Bool.{◌&&◌}
use Prim.Native.Nat.{ℕ}
use Rattle.std.proofs.Common.{rules}
use borrow.Author.Tests.{tests}
use Rattle.automaton.specs.NextStates.{set_at}
use Rattle.base.specs.Bits.{bit}
use Rattle.reach.specs.Configurations.{number}
use Rattle.kept.specs.Parts.{root_kept, caller_kept}
use Rattle.kept.proofs.StatesAsked.{states_asked}
use Rattle.kept.proofs.caller_kept.Goals as goal

pub returns : goal.returns
unfolding caller_kept
returns c =
    let a = c.args in
    let e = a.e in
    let t = λ (x : ℕ). bit a.r (set_at a.next.now x e.label) && root_kept a.z a.kept.now (number a.z e.routine e.source 0 x) in
    states_asked t a.z.states (search rules) c.any.ensures.ran (λ x b q k. search (rules, tests))
