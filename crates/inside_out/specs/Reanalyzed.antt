-- The routines that the inside-out repair reanalyzes (paper: reopened) for a change of a program.
use Rattle.std.specs.Prelude.{ℕ, ◌≡◌, ◌⊎◌, Bool, true}
use Rattle.program.specs.Program.{Program}
use Rattle.callgraph.specs.Components.{Reanalyzed, Gained}
use Rattle.edit.specs.Editing.{edited_program}
use Rattle.edit.specs.declared.Edit.TheVariants.{Add, Drop, Replace}
use Rattle.exchange.specs.Changes.{Change, step, whole}
use Rattle.exchange.specs.Changing.{emptied, exchanged_program}

-- on an add those that gained a configuration; on a drop those of a component that holds the changed routine or calls
-- one outside it whose summaries have changed; on a replace the drop's, and then the add's to what the drop leaves; on
-- an exchange the drop's, of all old edges together, and then those that gained by all new edges together
abbrev pub ReanalyzedBy : Change → Program → ℕ → Type 0
ReanalyzedBy (step (Add s)) p f = Gained p (edited_program (Add s) p) f
ReanalyzedBy (step (Drop s)) p f = Reanalyzed p (edited_program (Drop s) p) s.routine f
ReanalyzedBy (step (Replace s l)) p f =
    Reanalyzed p (edited_program (Drop s) p) s.routine f
    ⊎ Gained (edited_program (Drop s) p) (edited_program (Replace s l) p) f
ReanalyzedBy (whole x) p f =
    Reanalyzed p (emptied x.routine p) x.routine f ⊎ Gained (emptied x.routine p) (exchanged_program x p) f

-- the routines that are told: by the inside-out repair those that it reanalyzes, by the forward one none
abbrev pub Told : Bool → (ℕ → Type 0) → ℕ → Type 0
Told inward R f = (inward ≡ true) × R f
