-- `reach::parts::parts_of` meets its contract.
use Prim.Native.Nat.{ℕ}
use mathlib.Core.Path.{subst}
use Rattle.reach.specs.Configurations.{PartsOf}
use Rattle.reach.proofs.PartsCounted.{from_first}
use Rattle.reach.proofs.parts.parts_of.Goals as goal

pub parts_above-requires : goal.parts_above-requires
parts_above-requires c =
    let e = from_first c.args.z c.first_parts.result c.first_parts.ensures c.args.i in
    (c.requires.0, c.spans_of.ensures, rw e c.requires.1)

pub returns : goal.returns
returns c =
    let r = c.parts_above.result in
    let e = from_first c.args.z c.first_parts.result c.first_parts.ensures c.args.i in
    subst (λ (i : ℕ). PartsOf c.args.z i r.routine r.node r.root r.state) e c.parts_above.ensures
