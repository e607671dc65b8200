-- The program's own marks may be lent for either repair and any edit, and become the edited program's own.
use Prim.Native.Nat.{ℕ}
use mathlib.Core.Path.{◌≡◌}
use mathlib.Core.Bool.{Bool, true, false}
use mathlib.Core.List.{List}
use Rattle.program.specs.declared.sizes.Sizes.{Sizes}
use Rattle.program.specs.Program.{Program}
use Rattle.reach.specs.Configurations.{Usable}
use Rattle.reach.specs.Marks.{fresh_at}
use Rattle.edit.specs.Editing.{edited_program}
use Rattle.edit.specs.declared.Edit.{Edit}
use Rattle.forward.specs.Parts.{Repaired}
use Rattle.forward.proofs.EditedMarks as forward
use Rattle.update.specs.Parts.{Lent, Mended}

module _ {Z : Sizes} (inward : Bool) (e : Edit) (p : Program) {old : List ℕ} (o : old ≡ fresh_at Z p) where
  pub own_lent : Usable Z → Lent inward e Z p old
  own_lent u = go inward
    where
      go : (i : Bool) → Lent i e Z p old
      go true = o
      go false = forward.own_lent u e p o

  pub mended_own : (r : Program) (marks work : List ℕ) → Mended inward e Z p r old marks work → Repaired Z (edited_program e p) r marks work
  mended_own r marks work m = go inward m
    where
      go : (i : Bool) → Mended i e Z p r old marks work → Repaired Z (edited_program e p) r marks work
      go true m = m
      go false m = forward.mended_own e p r old marks work o m
