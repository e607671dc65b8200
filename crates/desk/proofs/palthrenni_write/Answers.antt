use Rattle.desk.proofs.BackByParts.{same_back, same_size}
use Rattle.answers.proofs.NumbersFit.{write_fits}
use mathlib.Core.Path.{refl}
use Rattle.desk.proofs.palthrenni_write.Goals as goal

pub write_numbers-numbers-requires : goal.write_numbers-numbers-requires
write_numbers-numbers-requires c = rw c.write-a.ensures.0 (write_fits _ _)

pub returns : goal.returns
returns c =
    let e = c.write-a.ensures in
    let n = rw e.0 at c.write_numbers-numbers.ensures in
    same_back n.0 n.1 (same_size 0 n.2) refl e.1 refl refl
