-- `kept::root_returns` meets its contract.
use mathlib.Core.Bool.{◌&&◌}
use Prim.Native.Nat.{ℕ}
use Rattle.std.proofs.Common.{rules}
use borrow.Author.Tests.{tests}
use Rattle.automaton.specs.Automaton.{call_of, return_of}
use Rattle.automaton.specs.NextStates.{set_at}
use Rattle.base.specs.Bits.{bit}
use Rattle.reach.specs.Configurations.{number}
use Rattle.kept.specs.Parts.{exit_kept, root_returns}
use Rattle.kept.proofs.StatesAsked.{states_asked}
use Rattle.kept.proofs.root_returns.Goals as goal

pub returns : goal.returns
unfolding root_returns
returns c =
    let a = c.args in
    let next = a.next.now in
    let t = λ (s : ℕ).
    bit s (set_at next a.y (call_of a.g)) && exit_kept a.z next a.kept.now (number a.z a.g 1 s 0) (return_of a.g) a.t in
    states_asked t a.z.states (search rules) c.any.ensures.ran (λ x b q k. search (rules, tests))
