use Rattle.desk.proofs.BackByParts.{same_repair}
use Rattle.answers.proofs.NumbersFit.{repair_fits}
use Rattle.repair.specs.Repairs.{After}
use mathlib.Core.Path.{ap}
use Rattle.desk.proofs.palthrenni_repair_forward.Goals as goal

pub write_numbers-numbers-requires : goal.write_numbers-numbers-requires
write_numbers-numbers-requires c = rw (ap (λ (a : After). a.answer) c.repair_with-a.ensures) (repair_fits _ _ _ _ _ _ _)

pub returns : goal.returns
returns c = same_repair 0 c.repair_with-a.ensures c.write_numbers-numbers.ensures
