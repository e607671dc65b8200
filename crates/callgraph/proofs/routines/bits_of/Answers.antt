use Rattle.callgraph.proofs.FlagsAsBits.{bitted_turn, bit_from}
use native.Mathlib.Omega.{arith}
use mathlib.Core.Path.{◌∙◌}
use Rattle.callgraph.proofs.routines.bits_of.Goals as goal

pub loop-i-preserved : goal.loop-i-preserved
loop-i-preserved c = bitted_turn _ _ c.loop-i.invariant (omega arith) (c.from.ensures ∙ bit_from _)
