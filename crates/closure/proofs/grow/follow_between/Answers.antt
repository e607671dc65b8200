-- `closure::grow::follow_between` meets its contract: the part of the table that is handed on has all edges of the program.
use Rattle.program.proofs.ProgramRanged.{ranged}
use Rattle.program.specs.Sizes.{max_edges}
use Rattle.program.specs.Decoded.{program_of}
use Rattle.closure.specs.Parts.{Followable}
use Rattle.closure.proofs.PartAwaited.{all_edges}
use lib.ListN.{length, take}
use lib.Seq.{length-take-le}
use native.Mathlib.Omega.{arith}
use Prim.Native.Nat.{◌≤◌}
use mathlib.Core.Path.{◌≡◌, sym}
use borrow.Author.Rules.{rules}
use Rattle.closure.proofs.grow.follow_between.Goals as goal
use Rattle.closure.proofs.grow.follow_between.Goals.{After-in_use-count, Start}

room : (c : Start) → length c.args.p.edges.keys ≡ max_edges
room c = search rules

in_table : (c : After-in_use-count) → c.in_use-count.result ≤ length c.args.p.edges.keys
in_table c = let r = room (goal.at.After-in_use-count c).Start in let u = c.in_use-count.ensures in omega arith

followable : (c : After-in_use-count)
    → Followable c.args.z (program_of c.args.p) (take c.in_use-count.result c.args.p.edges.keys)
    c.next_states-table.result.sets c.args.low c.args.high c.args.marks.now
followable c =
    all_edges c.args.z c.requires.well_formed.1.usable c.args.p (room (goal.at.After-in_use-count c).Start) c.in_use-count.ensures c.requires.well_formed.0 c.requires.well_formed.1 c.next_states-table.ensures c.requires.closed_but

pub next_states-table-requires : goal.next_states-table-requires
next_states-table-requires c = ranged (program_of c.args.p) c.requires.well_formed.0

pub slice_bounds-keys-end : goal.slice_bounds-keys-end
slice_bounds-keys-end c = in_table c

pub slice_bounds-follow_part-end : goal.slice_bounds-follow_part-end
slice_bounds-follow_part-end c =
    sym (length-take-le c.in_use-count.result c.args.p.edges.keys (in_table (goal.at.slice_bounds-follow_part-end c).After-in_use-count))

pub follow_part-requires : goal.follow_part-requires
follow_part-requires c =
    record { high_bound = c.requires.well_formed.2; followable = (_, followable (goal.at.follow_part-requires c).After-in_use-count) }

pub returns : goal.returns
returns c =
    let e = c.follow_part.ensures in
    e _ (followable (goal.at.returns c).After-in_use-count)
