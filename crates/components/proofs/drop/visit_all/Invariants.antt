-- `components::drop::visit_all` meets its contract. The loop's invariant: turn `i` comes next.
use Rattle.program.specs.Decoded.{program_of}
use Rattle.words.specs.Words.{flags_of}
use Rattle.components.specs.TurnParts.{first_turn, Advances}
use Rattle.components.proofs.drop.visit_all.Given as goal

abbrev pub invariant-loop-i : goal.invariant-loop-i
invariant-loop-i l =
    Advances l.z (program_of l.p) l.edited l.leads l.roots (flags_of l.before) first_turn l.initial.marks
    l.initial.progress l.i l.marks l.progress
