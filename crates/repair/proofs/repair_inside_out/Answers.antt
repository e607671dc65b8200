use mathlib.Core.Path.{refl}
use Rattle.repair.proofs.repair_inside_out.Goals as goal

pub returns : goal.returns
returns c =
    let r = c.repair_file.ensures in
    (r.0, r.1 refl)
