-- `words::first_set` meets its contract. The loop's invariant: no flag of the words before word `i` is set.
use Prim.Native.Nat.{◌*◌}
use Rattle.words.specs.Words.{flags_of, NoneBelow}
use Rattle.words.proofs.first_set.Given as goal

abbrev pub invariant-loop-i : goal.invariant-loop-i
invariant-loop-i l = NoneBelow (flags_of l.words) (l.i * 64)
