-- `kept::exit_kept` meets its contract.
use Prim.Native.Nat.{ℕ}
use Rattle.std.proofs.Common.{rules}
use borrow.Author.Tests.{tests}
use Rattle.kept.specs.Parts.{move_kept, exit_kept}
use Rattle.kept.proofs.StatesAsked.{states_asked}
use Rattle.kept.proofs.exit_kept.Goals as goal

pub returns : goal.returns
unfolding exit_kept
returns c =
    let a = c.args in
    states_asked (λ (x : ℕ). move_kept a.next.now a.kept.now a.exit x a.l a.t) a.z.states (search rules) c.any.ensures.ran
    (λ x b q k. search (rules, tests))
