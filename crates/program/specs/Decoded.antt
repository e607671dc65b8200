-- The program as it is kept by value, and the program that it stands for.
use Rattle.std.specs.Prelude.{ℕ, ◌/◌, ◌%◌, List, map, take}
use Rattle.automaton.specs.Decoded.{automaton_of}
use Rattle.program.specs.Program.{Edge, Program}
use Rattle.program.specs.declared.Nodes.{Nodes}
use Rattle.program.specs.declared.DecodedProgram.{DecodedProgram}
use Rattle.program.specs.declared.edges.Edges.{Edges}
use Rattle.program.specs.declared.edges.DecodedEdge.{DecodedEdge}

abbrev pub nodes_of : Nodes → List ℕ
nodes_of n = take n.count n.list

-- the keys of the table of edges
abbrev pub edge_keys_of : Edges → List ℕ
edge_keys_of t = take t.count t.keys

-- an edge is kept as one number in base 256, its key
abbrev pub edge_of : ℕ → Edge
edge_of k = record { routine = k / 0x1000000; source = k / 0x10000 % 256; label = k / 0x100 % 256; target = k % 256 }

-- the edge of its parts one by one
abbrev pub edge_view : DecodedEdge → Edge
edge_view e = record { routine = e.routine; source = e.source; label = e.label; target = e.target }

abbrev pub program_of : DecodedProgram → Program
program_of d =
    record {
      routines = d.routines;
      nodes = nodes_of d.nodes;
      edges = map edge_of (edge_keys_of d.edges);
      automaton = automaton_of d.automaton;
    }
