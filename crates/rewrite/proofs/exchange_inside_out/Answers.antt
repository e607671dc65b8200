use mathlib.Core.Path.{refl}
use Rattle.rewrite.proofs.exchange_inside_out.Goals as goal

pub returns : goal.returns
returns c =
    let r = c.exchange_file.ensures in
    (r.0, r.1 refl)
