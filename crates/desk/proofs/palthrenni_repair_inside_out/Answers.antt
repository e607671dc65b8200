use Rattle.desk.proofs.BackByParts.{same_repair}
use Rattle.answers.proofs.NumbersFit.{repair_fits}
use Rattle.repair.specs.Repairs.{After}
use mathlib.Core.Path.{ap}
use Rattle.desk.proofs.palthrenni_repair_inside_out.Goals as goal

pub repair_numbers-numbers-requires : goal.repair_numbers-numbers-requires
repair_numbers-numbers-requires c = rw (ap (λ (a : After). a.answer) c.repair_inside_out-a.ensures.0) (repair_fits _ _ _ _ _ _ _)

pub returns : goal.returns
returns c =
    let x = c.repair_inside_out-a.ensures in
    let n = c.repair_numbers-numbers.ensures in
    (same_repair _ x.0 (n.0, n.1, n.2), rw (n.0, n.3) x.1)
