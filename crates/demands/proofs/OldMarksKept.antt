-- An exchange never changes the old marks: the new ones go to the second buffer.
use mathlib.Core.Path.{◌≡◌, ap, ◌∙◌}
use Rattle.exchange.specs.Changes.{ExchangeText}
use Rattle.repair.proofs.BuffersKept.{exchange_keeps}
use Rattle.desk.specs.Entries.{Lent, Back, Gives}
use Rattle.demands.specs.Lists.{Repair, entry}
use Rattle.demands.proofs.EntriesGive.{repair_gives}

pub old_marks_kept : (r : Repair) (b : Lent) (a : Back) → Gives (entry ExchangeText r) b a → a.marks ≡ b.marks
old_marks_kept r b a g =
    ap (λ (x : Back). x.marks) (repair_gives ExchangeText r b a g) ∙ exchange_keeps b.marks b.output b.work b.second b.file b.text
