-- `violations::count_violations` meets its contract: what the filter keeps are the violations.
use mathlib.Core.Path.{ap, ◌∙◌}
use Prim.Native.Nat.{ℕ}
use native.Mathlib.Omega.{arith}
use lib.ListN.{length, get_or}
use borrow.Author.Tests.{tests}
use Rattle.std.proofs.Common.{rules}
use Rattle.std.proofs.lemmas.Iterator.{YieldsList-from_range}
use Rattle.std.proofs.lemmas.Iterator.Consumers.{YieldsList-from_filter, count_from_yields_List}
use Rattle.reach.specs.Marks.{violates}
use Rattle.violations.proofs.ViolationsCounted.{violations_kept}
use Rattle.violations.proofs.count_violations.Goals as goal

pub returns : goal.returns
returns c p r =
    let a = c.args in
    let marks = a.marks.now in
    let n = length marks in
    let t = λ (i : ℕ). violates a.z p (get_or marks i 0) i in
    count_from_yields_List c.filter.result _ c.count.ensures.ran
    (YieldsList-from_filter _ t (YieldsList-from_range 0 n n (search rules) (omega arith)) c.filter.ensures.closure
    (λ x b q k. search (rules, tests)))
    ∙ ap length (violations_kept a.z p marks n 0 (omega arith))
