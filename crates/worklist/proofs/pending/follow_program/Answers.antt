-- `worklist::pending::follow_program` meets its contract: the tables are those of the program.
use Rattle.program.specs.Sizes.{max_edges}
use Rattle.program.specs.Decoded.{program_of}
use Rattle.program.proofs.ProgramRanged.{ranged}
use Rattle.worklist.specs.Parts.{Begun}
use Rattle.index.proofs.RoutinePart.{table_edges}
use lib.ListN.{length, take}
use mathlib.Core.Path.{◌≡◌}
use borrow.Author.Rules.{rules}
use Rattle.worklist.proofs.pending.follow_program.Goals as goal
use Rattle.worklist.proofs.pending.follow_program.Goals.{After-in_use-count, After-index_of-chained, Start}

room : (c : Start) → length c.args.p.edges.keys ≡ max_edges
room c = search rules

pub next_states-table-requires : goal.next_states-table-requires
next_states-table-requires c = ranged (program_of c.args.p) c.requires.0

begun : (c : After-index_of-chained)
    → let a = c.args in
    Begun a.z (program_of a.p) (take c.in_use-count.result a.p.edges.keys)
    c.index_of-chained.result.places c.next_states-table.result.sets
    a.marks.now a.pending.now a.known.now
begun c =
    record {
      tables = record {
        well_formed = c.requires.0;
        ranged = c.requires.1.ranged;
        edges = table_edges c.args.p (room (goal.at.After-index_of-chained c).Start) c.in_use-count.ensures;
        indexed = c.index_of-chained.ensures;
        answers = c.next_states-table.ensures;
      };
      shape = c.requires.3;
    }

pub returns : goal.returns
returns c =
    c.follow_pending.ensures (program_of c.args.p) (begun (goal.at.returns c).After-index_of-chained)
