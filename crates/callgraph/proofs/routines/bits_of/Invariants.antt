-- `callgraph::routines::bits_of` meets its contract. The loop's invariant: the flags from `i` on are the bits of `n`.
use Rattle.callgraph.proofs.FlagsAsBits.{Bitted}
use Rattle.callgraph.proofs.routines.bits_of.Given as goal

abbrev pub invariant-loop-i : goal.invariant-loop-i
invariant-loop-i l = Bitted l.flags l.i l.n
