use Rattle.desk.proofs.BackByParts.{same_back}
use Rattle.answers.proofs.NumbersFit.{block_fits}
use Rattle.desk.specs.Entries.{blocking}
use mathlib.Core.Path.{refl}
use Rattle.desk.proofs.palthrenni_next_blocked.Goals as goal

pub block_numbers-numbers-requires : goal.block_numbers-numbers-requires
block_numbers-numbers-requires c = rw c.next_blocked-a.ensures.0 (block_fits _ _ _ _)

pub returns : goal.returns
returns c =
    let e = c.next_blocked-a.ensures in
    let n = rw e.0 at c.block_numbers-numbers.ensures in
    same_back n.0 n.1 (λ i. blocking (n.2 i) (n.3 i)) refl refl e.1 refl
