-- What an edit asks of the marks, and what they become, by the forward or by the inside-out repair; nothing here has to
-- be believed.
use Rattle.std.specs.Prelude.{ℕ, ◌≡◌, Bool, true, false, List}
use Rattle.program.specs.declared.sizes.Sizes.{Sizes}
use Rattle.program.specs.Program.{Program}
use Rattle.reach.specs.Marks.{fresh_at}
use Rattle.edit.specs.Editing.{edited_program}
use Rattle.edit.specs.declared.Edit.{Edit}
use Rattle.forward.specs.Parts.{Repaired, LentForward, MendedForward}

-- inside-out they are the program's own (17); forward they may be any on a drop
abbrev pub Lent : Bool → Edit → Sizes → Program → List ℕ → Type 0
Lent true e Z p marks = marks ≡ fresh_at Z p
Lent false e Z p marks = LentForward e Z p marks

-- inside-out they become the edited program's own; forward, on a drop, what is kept of them (paper: the keeping)
abbrev pub Mended : Bool → Edit → Sizes → Program → Program → List ℕ → List ℕ → List ℕ → Type 0
Mended true e Z p r old marks work = Repaired Z (edited_program e p) r marks work
Mended false e Z p r old marks work = MendedForward e Z p r old marks work
