-- `kept::return_kept` meets its contract.
use mathlib.Core.Path.{refl}
use mathlib.Core.Bool.{◌&&◌}
use Prim.Native.Nat.{ℕ, ◌+◌}
use borrow.Author.Tests.{lt-ltb, le-ltb, tests}
use Rattle.std.proofs.Common.{rules}
use Rattle.base.specs.Flags.{is_set}
use Rattle.kept.specs.Parts.{root_returns, return_kept}
use Rattle.kept.proofs.StatesAsked.{states_asked}
use Rattle.kept.proofs.return_kept.Goals as goal

pub returns-then-g-lt-MAX_ROUTINES : goal.returns-then-g-lt-MAX_ROUTINES
unfolding return_kept
returns-then-g-lt-MAX_ROUTINES c =
    let a = c.args in
    let t = λ (y : ℕ). is_set a.kept.now (a.caller + y) && root_returns a.z a.next.now a.kept.now y a.g a.t in
    rw (lt-ltb _ _ c.if-g-lt-MAX_ROUTINES.true)
    (states_asked t a.z.states (search rules) c.any.ensures.ran (λ x b q k. search (rules, tests)))

pub returns-else-g-lt-MAX_ROUTINES : goal.returns-else-g-lt-MAX_ROUTINES
unfolding return_kept
returns-else-g-lt-MAX_ROUTINES c = rw (le-ltb _ _ c.if-g-lt-MAX_ROUTINES.false) refl
