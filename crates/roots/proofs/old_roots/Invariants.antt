-- `roots::old_roots` meets its contract. The loop's invariant: the flags below `i` are the entries' bytes.
use Rattle.automaton.specs.Sizes.{max_states}
use Rattle.reach.specs.Sizes.{roots_size}
use Rattle.base.proofs.BytesFilled.{Filling}
use Rattle.roots.specs.Parts.{entry_byte}
use Prim.Native.Nat.{◌/◌, ◌%◌}
use lib.ListN.{replicate}
use Rattle.roots.proofs.old_roots.Given as goal

abbrev pub invariant-loop-i : goal.invariant-loop-i
invariant-loop-i l =
    Filling (λ j. entry_byte l.z l.marks (j / max_states) (j % max_states)) roots_size (replicate roots_size 0)
    l.flag-items l.i
