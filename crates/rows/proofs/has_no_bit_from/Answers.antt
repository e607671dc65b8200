-- `rows::has_no_bit_from` meets its contract.
use native.Mathlib.Omega.{arith}
use Rattle.base.proofs.BitsPastTheEnd.{past_the_end}
use Rattle.rows.proofs.has_no_bit_from.Goals as goal

pub returns : goal.returns
returns c = rw (past_the_end 64 c.args.n c.args.bits (omega arith) (omega arith))
