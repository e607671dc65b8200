use Rattle.desk.proofs.BackByParts.{same_back}
use Rattle.answers.proofs.NumbersFit.{next_fits}
use Rattle.desk.specs.Entries.{finding}
use mathlib.Core.Path.{refl, ap}
use Rattle.desk.proofs.palthrenni_next_violation.Goals as goal

pub next_numbers-numbers-requires : goal.next_numbers-numbers-requires
next_numbers-numbers-requires c = rw c.next_violation-a.ensures.0 (next_fits _ _ _ _)

pub returns : goal.returns
returns c =
    let e = c.next_violation-a.ensures in
    let n = rw e.0 at c.next_numbers-numbers.ensures in
    same_back n.0 n.1 (ap finding n.2) refl refl e.1 refl
