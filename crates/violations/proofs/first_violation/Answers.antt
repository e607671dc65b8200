-- `violations::first_violation` meets its contract: the first number that passes the test is looked for.
use mathlib.Core.Path.{refl, sym, ◌∙◌}
use Prim.Native.Nat.{ℕ, ◌-◌}
use lib.ListN.{length, get_or}
use borrow.Author.Tests.{tests}
use Rattle.std.proofs.Common.{rules}
use Rattle.std.proofs.lemmas.Iterator.{YieldsList-from_range}
use Rattle.std.proofs.lemmas.Iterator.Adapters.{option_map_id}
use Rattle.std.proofs.lemmas.Iterator.Search.{find_from_yields_List}
use Rattle.reach.specs.Marks.{violates}
use Rattle.violations.proofs.ViolationsCounted.{sought_none, sought_first}
use Rattle.violations.proofs.first_violation.Goals as goal

pub returns : goal.returns
returns c p r =
    let a = c.args in
    let marks = a.marks.now in
    let k = length marks - a.from in
    let t = λ (i : ℕ). violates a.z p (get_or marks i 0) i in
    let found = sym (option_map_id c.find.result)
    ∙ find_from_yields_List t _ _ c.find.result c.find.ensures.ran
    (YieldsList-from_range a.from (length marks) k (search rules) refl) (λ x b q h. search (rules, tests)) in
    rw found (sought_first a.z p marks a.from k a.from refl (sought_none a.z p marks a.from))
