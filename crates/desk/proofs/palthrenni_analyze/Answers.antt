use Rattle.desk.proofs.BackByParts.{same_back, same_counts}
use Rattle.answers.proofs.NumbersFit.{analyze_fits}
use mathlib.Core.Path.{refl}
use Rattle.desk.proofs.palthrenni_analyze.Goals as goal

pub analyze_numbers-numbers-requires : goal.analyze_numbers-numbers-requires
analyze_numbers-numbers-requires c = rw c.analyze-a.ensures.0 (analyze_fits _ _ _ _)

pub returns : goal.returns
returns c =
    let e = c.analyze-a.ensures in
    let n = rw e.0 at c.analyze_numbers-numbers.ensures in
    same_back n.0 n.1 (same_counts n.2 n.3 n.4) e.1 refl e.2 refl
