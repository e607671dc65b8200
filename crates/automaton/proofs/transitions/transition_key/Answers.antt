-- `automaton::transitions::transition_key` meets its contract.
use mathlib.Core.Path.{◌≡◌}
use Prim.Native.Nat.{ℕ, ◌+◌, ◌*◌, ◌/◌, ◌%◌, ◌<◌}
use native.Mathlib.Omega.{arith}
use borrow.Author.Rules.{rules}
use Rattle.automaton.specs.Decoded.{transition_of}
use Rattle.automaton.proofs.transitions.transition_key.Goals as goal

parts : (q a s : ℕ) → a < 256 → s < 256 → transition_of ((q * 256 + a) * 256 + s) ≡ record { before = q; label = a; after = s }
parts q a s h k =
    let x : ((q * 256 + a) * 256 + s) / 0x10000 ≡ q = omega arith in
    let y : ((q * 256 + a) * 256 + s) / 0x100 % 256 ≡ a = omega arith in
    let z : ((q * 256 + a) * 256 + s) % 256 ≡ s = omega arith in
    cc

pub returns : goal.returns
returns c = rw (c.from.ensures, c.from-2.ensures, c.from-3.ensures) (parts _ _ _ (search rules) (search rules))
