use mathlib.Core.Path.{◌≡◌, sym}
use native.Mathlib.Omega.{arith}
use lib.ListN.{length}
use lib.Seq.{get_or-take}
use borrow.Author.Rules.{rules}
use Rattle.base.proofs.EntriesInUse.{past_used}
use Rattle.program.specs.Sizes.{max_routines}
use Rattle.ranges.proofs.node_count.Goals as goal

pub returns-then-i-in_use : goal.returns-then-i-in_use
returns-then-i-in_use c =
    let a = c.args in
    sym (get_or-take a.n.count a.n.list a.f 0 (omega arith))

pub returns : goal.returns
returns c =
    let a = c.args in
    let size : length a.n.list ≡ max_routines = search rules in
    sym (past_used a.n.count a.n.list a.f (omega arith))
