-- `kept::root_kept` meets its contract.
use Prim.Native.Nat.{ℕ, ◌+◌, ◌*◌}
use Rattle.std.proofs.Common.{rules}
use borrow.Author.Tests.{tests}
use Rattle.base.specs.Flags.{is_set}
use Rattle.kept.specs.Parts.{root_kept}
use Rattle.kept.proofs.StatesAsked.{states_asked}
use Rattle.kept.proofs.root_kept.Goals as goal

pub returns : goal.returns
unfolding root_kept
returns c =
    let a = c.args in
    states_asked (λ (x : ℕ). is_set a.kept.now (a.base + a.z.states * x)) a.z.states (search rules) c.any.ensures.ran
    (λ x b q k. search (rules, tests))
