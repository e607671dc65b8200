use Rattle.desk.proofs.BackByParts.{same_back}
use Rattle.answers.proofs.NumbersFit.{checked_fits}
use mathlib.Core.Path.{refl}
use Rattle.desk.proofs.palthrenni_prune.Goals as goal

pub verdict_numbers-numbers-requires : goal.verdict_numbers-numbers-requires
verdict_numbers-numbers-requires c = rw c.prune-pruned.ensures.0 (checked_fits _ _ _ _)

pub returns : goal.returns
returns c =
    let e = c.prune-pruned.ensures in
    let n = rw e.0 at c.verdict_numbers-numbers.ensures in
    (same_back n.0 n.1 refl refl refl e.2 refl, e.1)
