-- `base::bits::has_bit` meets its contract.
use native.Mathlib.Omega.{arith}
use borrow.Author.Tests.{le-ltb}
use Rattle.base.proofs.BitsPastTheEnd.{past_the_end}
use Rattle.base.proofs.bits.has_bit.Goals as goal

pub returns-else-i-lt64 : goal.returns-else-i-lt64
returns-else-i-lt64 c =
    rw (le-ltb _ _ c.if-i-lt64.false, past_the_end 64 c.args.i c.args.bits (omega arith) (omega arith))
