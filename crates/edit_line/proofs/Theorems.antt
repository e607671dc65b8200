-- What is proved of edit lines.
use mathlib.Core.Path.{◌≡◌}
use mathlib.Core.List.{List}
use Prim.Native.Nat.{ℕ}
use Rattle.program.specs.Program.{Program}
use Rattle.edit.specs.Editing.{Applies}
use Rattle.edit.specs.declared.Edit.{Edit}
use Rattle.edit.specs.EditReads.{Read}
use Rattle.edit.proofs.EditRefusals.{judged_applies}
use Rattle.edit_line.specs.EditLines.{read_edit, wanted_edit}
use Rattle.edit_line.proofs.LinesInRange.{read_fits}

-- An edit line that is not refused says an edit that applies.
pub wanted_applies : (p : Program) (line : List ℕ) (e : Edit) → wanted_edit p line ≡ Read e → Applies e p
unfolding wanted_edit
wanted_applies p line e h = judged_applies p (read_edit p line) e (read_fits p line) h
