use Rattle.program.proofs.ProgramByParts.{automaton_parts, program_parts}
use Rattle.program.specs.Decoded.{edge_of}
use Rattle.program.specs.Program.{no_program}
use Rattle.automaton.specs.Decoded.{transition_of}
use mathlib.Core.List.{map}
use mathlib.Core.Path.{refl, ap}
use Rattle.program.proofs.no_program.Goals as goal

pub returns : goal.returns
returns c =
    program_parts no_program refl refl (ap (map edge_of) c.no_edges-edges.ensures)
    (automaton_parts no_program.automaton refl refl (ap (map transition_of) c.no_transitions-transitions.ensures) c.no_states-initial.ensures
    c.no_states-rejecting.ensures)
