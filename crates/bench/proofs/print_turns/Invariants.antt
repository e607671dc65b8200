-- `bench::print_turns` is safe and ends. The loop's invariant: the output has its length, and what is to be printed lies in it; a line more is behind at each
-- turn.
use mathlib.Core.Path.{◌≡◌}
use Prim.Native.Nat.{◌≤◌, ◌-◌}
use lib.ListN.{length}
use Rattle.bench.proofs.print_turns.Given as goal

abbrev pub invariant-loop-turn : goal.invariant-loop-turn
invariant-loop-turn g l = (length l.out ≡ 180235) × (l.turn.size ≤ length l.out)

abbrev pub decreases-loop-turn : goal.decreases-loop-turn
decreases-loop-turn g l = length l.input - l.turn.next
