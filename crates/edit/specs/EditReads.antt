-- An edit that was read, or the refusal of its line or by its program; and the answers of the code, seen as such.
use Rattle.std.specs.Prelude.{ℕ, Result, Ok, Err}
use Rattle.program.specs.Refusals.{number}
use Rattle.program.specs.declared.refusal.Refusal.{Refusal}
use Rattle.edit.specs.declared.Edit.{Edit}

pub data EditRead : Type 0 where
  Read : Edit → EditRead
  Refused : ℕ → EditRead

abbrev pub edit_read_of : Result Edit Refusal → EditRead
edit_read_of (Ok e) = Read e
edit_read_of (Err r) = Refused (number r)
