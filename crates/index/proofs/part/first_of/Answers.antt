-- `index::part::first_of` meets its contract.
use Rattle.index.proofs.part.first_of.Goals as goal

pub returns : goal.returns
returns c =
    let first = c.first_from.ensures in
    let key = c.first_key.ensures in
    record {
      within = first.within;
      below = λ i h. (key _).0 (first.below i h);
      not-below = λ h. (key _).1 (first.not-below h);
    }
