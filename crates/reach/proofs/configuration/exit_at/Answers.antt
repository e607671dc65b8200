-- `reach::configuration::exit_at` meets its contract.
use Prim.Native.Nat.{◌<◌}
use mathlib.Core.Path.{◌≡◌}
use native.Mathlib.Omega.{arith}
use Rattle.reach.specs.Configurations.{exit_at}
use Rattle.reach.proofs.Numbers.{exit_range, number_fits}
use borrow.Author.Rules.{rules}
use Rattle.reach.proofs.configuration.exit_at.Goals as goal

pub narrow-f-requires : goal.narrow-f-requires
narrow-f-requires c = let h = (exit_range c.args.z c.requires.0 c.args.place c.requires.1).routine in
    let small : c.args.z.routines < 256 = search rules in
    rw (c.high_digits.ensures, c.high_digits-a.ensures) (omega arith)

pub returns : goal.returns
unfolding exit_at
returns c = let h = exit_range c.args.z c.requires.0 c.args.place c.requires.1 in
    let e : c.number_of.result ≡ exit_at c.args.z c.args.place =
    rw (c.number_of.ensures.0, c.low_digit-q.ensures, c.low_digit-r.ensures, c.narrow-f.ensures, c.high_digits.ensures, c.high_digits-a.ensures) in
    (e, rw e (number_fits h))
