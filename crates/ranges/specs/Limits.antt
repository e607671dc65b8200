-- What bounds the numbers of a frame, in terms of what the functions that judge one line are handed.
use Rattle.std.specs.Prelude.{[]}
use Rattle.program.specs.Program.{Program}
use Rattle.program.specs.Decoded.{nodes_of}
use Rattle.program.specs.declared.DecodedProgram.{DecodedProgram}
use Rattle.ranges.specs.declared.Limits.{Limits}

-- what bounds the numbers of a program's frames, and a program of which only that is known
abbrev pub limits : DecodedProgram → Limits
limits d = record {
  routines = d.routines;
  states = d.automaton.states;
  actions = d.automaton.actions;
  nodes = d.nodes;
}

abbrev pub limits_of : Limits → Program
limits_of h =
    record {
      routines = h.routines;
      nodes = nodes_of h.nodes;
      edges = [];
      automaton = record { states = h.states; actions = h.actions; transitions = []; initial = []; rejecting = [] };
    }
