-- `words::bits_from` meets its contract.
use Prim.Native.Nat.{◌/◌}
use native.Mathlib.Omega.{arith}
use Rattle.words.proofs.FlagsJoined.{flags_joined, flags_last, flags_past}
use Rattle.words.proofs.bits_from.Goals as goal

pub returns-then-i-words : goal.returns-then-i-words
returns-then-i-words c =
    let a = c.args in
    flags_joined a.words.now a.at (omega (arith, c.type_inv.words (a.at / 64)))

pub returns-then-i-words-2 : goal.returns-then-i-words-2
returns-then-i-words-2 c =
    let a = c.args in
    flags_last a.words.now a.at (omega (arith, c.type_inv.words (a.at / 64))) (omega arith)

pub returns-else-i-words-2 : goal.returns-else-i-words-2
returns-else-i-words-2 c = flags_past c.args.words.now c.args.at (omega arith)
