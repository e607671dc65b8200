-- `rows::row_key` meets its contract.
use mathlib.Core.Path.{◌≡◌}
use Prim.Native.Nat.{ℕ, ◌+◌, ◌*◌, ◌/◌, ◌%◌, ◌<◌}
use native.Mathlib.Omega.{arith}
use borrow.Author.Rules.{rules}
use Rattle.rows.specs.Decoded.{row_of}
use Rattle.rows.proofs.row_key.Goals as goal

parts : (q a s : ℕ) → a < 0x100000000 → s < 256 → row_of ((q * 0x100000000 + a) * 256 + s) ≡ record { states = q; actions = a; next = s }
parts q a s h k =
    let x : ((q * 0x100000000 + a) * 256 + s) / 0x10000000000 ≡ q = omega arith in
    let y : ((q * 0x100000000 + a) * 256 + s) / 0x100 % 0x100000000 ≡ a = omega arith in
    let z : ((q * 0x100000000 + a) * 256 + s) % 256 ≡ s = omega arith in
    cc

pub returns : goal.returns
returns c = parts _ _ _ (search rules) (search rules)
