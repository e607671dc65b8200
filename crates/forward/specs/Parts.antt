-- What the functions that repair the marks forward ask and promise; nothing here has to be believed.
use Rattle.std.specs.Prelude.{ℕ, ◌≡◌, List, length}
use Rattle.program.specs.declared.sizes.Sizes.{Sizes}
use Rattle.program.specs.Chosen.{numbers}
use Rattle.program.specs.Program.{Program}
use Rattle.reach.specs.Configurations.{none_set}
use Rattle.reach.specs.Marks.{Shows, fresh_at}
use Rattle.prune.specs.Pruning.{Kept}
use Rattle.edit.specs.Editing.{edited_program}
use Rattle.edit.specs.declared.Edit.{Edit}
use Rattle.edit.specs.declared.Edit.TheVariants.{Add, Drop, Replace}

-- the program is the wanted one, the marks are its own in these sizes, and the working buffer is all zero
pub record Repaired (Z : Sizes) (wanted p : Program) (marks work : List ℕ) : Type 0 where
  pub is_wanted : p ≡ wanted
  pub own : marks ≡ fresh_at Z p
  pub clear : work ≡ none_set Z

-- the program is the wanted one, the marks are what it keeps of the old ones (paper: the keeping), foreign or not, and
-- the working buffer is all zero
pub record Keeps (Z : Sizes) (wanted p : Program) (old marks work : List ℕ) : Type 0 where
  pub is_wanted : p ≡ wanted
  pub kept : Shows Z (Kept Z p old) marks
  pub clear : work ≡ none_set Z

-- ---- an edit, forward

-- what is asked of the marks: by a drop no more than their length, since it keeps of any marks, the program's own or
-- not; by an add and by a replace that they are the program's own (17)
abbrev pub LentForward : Edit → Sizes → Program → List ℕ → Type 0
LentForward (Add s) Z p marks = marks ≡ fresh_at Z p
LentForward (Drop s) Z p marks = length marks ≡ numbers Z
LentForward (Replace s l) Z p marks = marks ≡ fresh_at Z p

-- what the marks become: by a drop what the edited program keeps of them, which is its own where they were the
-- program's own; else the edited program's own
abbrev pub MendedForward : Edit → Sizes → Program → Program → List ℕ → List ℕ → List ℕ → Type 0
MendedForward (Add s) Z p r old marks work = Repaired Z (edited_program (Add s) p) r marks work
MendedForward (Drop s) Z p r old marks work =
    Keeps Z (edited_program (Drop s) p) r old marks work
    × (old ≡ fresh_at Z p → Repaired Z (edited_program (Drop s) p) r marks work)
MendedForward (Replace s l) Z p r old marks work = Repaired Z (edited_program (Replace s l) p) r marks work
