-- `automaton::next::with_state` meets its contract.
use mathlib.Core.Path.{◌≡◌, ap, ◌∙◌}
use native.Mathlib.Omega.{arith}
use lib.Bits.{bit_or}
use lib.Pow.{shl_exact}
use Prim.Native.Nat.{◌*◌, ◌^◌}
use Rattle.base.specs.Bits.{with_bit}
use Rattle.automaton.proofs.next.with_state.Goals as goal

pub returns : goal.returns
unfolding with_bit
returns c =
    let one : 1 * 2 ^ c.args.s ≡ 2 ^ c.args.s = omega arith in
    ap (bit_or c.args.set) (shl_exact {a = 1} 1 c.args.s 16 (omega arith) (omega (arith, c.requires)) ∙ one)
