-- Changes of a program: an edit of one edge (paper: step), or an exchange of a whole routine.
use Rattle.std.specs.Prelude.{ℕ, List}
use Rattle.program.specs.Program.{Edge}
use Rattle.edit.specs.declared.Edit.{Edit}

-- an exchange (paper: the routine is replaced entire): routine f has so many nodes (paper: places) now and, for its old
-- edges, these
pub record Exchange : Type 0 where
  pub routine : ℕ
  pub nodes : ℕ
  pub edges : List Edge

pub data Change : Type 0 where
  step : Edit → Change
  whole : Exchange → Change

-- a change that was read, or the refusal of its line or text
pub data ChangeRead : Type 0 where
  Read : Change → ChangeRead
  Refused : ℕ → ChangeRead

-- what a call is handed: an edit line, or the text of an exchange
pub data Form : Type 0 where
  EditLine : Form
  ExchangeText : Form
