-- What the two repairs give, by an edit line and by the text of an exchange alike.
use mathlib.Core.Path.{◌≡◌, sym, ap, ◌∙◌}
use Rattle.exchange.specs.Changes.{Form, EditLine, ExchangeText}
use Rattle.desk.specs.Entries.{Lent, Back, repair_back, repaired_in, RepairGives, InsideOutGives, Gives}
use Rattle.demands.specs.Lists.{Repair, forward, inside_out, entry}

pub forward_gives : (k : Form) (b : Lent) (a : Back) → Gives (entry k forward) b a → RepairGives k b a
forward_gives EditLine b a g = g
forward_gives ExchangeText b a g = g

pub inside_out_gives : (k : Form) (b : Lent) (a : Back) → Gives (entry k inside_out) b a → InsideOutGives k b a
inside_out_gives EditLine b a g = g
inside_out_gives ExchangeText b a g = g

-- both give back what `repaired` says, but for the reanalyzed routines
pub repair_gives : (k : Form) (r : Repair) (b : Lent) (a : Back) → Gives (entry k r) b a → a ≡ repair_back (repaired_in k b) a.values.reanalyzed
repair_gives k forward b a x =
    let y = forward_gives k b a x in
    y ∙ ap (repair_back (repaired_in k b)) (sym (ap (λ (z : Back). z.values.reanalyzed) y))
repair_gives k inside_out b a x = (inside_out_gives k b a x).0
