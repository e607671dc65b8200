-- `rows::add_row` meets its contract.
use mathlib.Core.Path.{◌≡◌}
use Prim.Native.Nat.{◌<◌}
use native.Mathlib.Omega.{arith}
use lib.ListN.{length}
use borrow.Author.Rules.{rules}
use Rattle.base.proofs.EntriesInUse.{unfilled}
use Rattle.tables.proofs.TableChanged.{holds_more}
use Rattle.rows.specs.Rows.{max_rows}
use Rattle.rows.proofs.add_row.Goals as goal
use Rattle.rows.proofs.add_row.Goals.{Start}

room : (z : Start) → z.args.rows.count < max_rows
room z =
    let size : length z.args.rows.keys ≡ max_rows = search rules in
    rw size at (unfilled z.args.rows.count z.args.rows.keys (rw size z.requires))

pub offset_bounds-keys-count : goal.offset_bounds-keys-count
offset_bounds-keys-count c = omega (arith, room (goal.at.offset_bounds-keys-count c).Start)

pub bounds-keys-count : goal.bounds-keys-count
bounds-keys-count c = room (goal.at.bounds-keys-count c).Start

pub overflow_add-result : goal.overflow_add-result
overflow_add-result c = omega (arith, room (goal.at.overflow_add-result c).Start)

pub returns : goal.returns
returns c =
    let size : length c.args.rows.keys ≡ max_rows = search rules in
    (holds_more c.args.rows.keys c.args.rows.count c.args.key (omega (arith, room (goal.at.returns c).Start))).are
