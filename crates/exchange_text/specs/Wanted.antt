-- The change that a call is handed: an edit line, or the text of an exchange.
use Rattle.std.specs.Prelude.{ℕ, List}
use Rattle.program.specs.Program.{Program}
use Rattle.edit.specs.EditReads.{EditRead}
use Rattle.edit.specs.EditReads as edit
use Rattle.edit_line.specs.EditLines.{wanted_edit}
use Rattle.exchange.specs.Changes.{step, ChangeRead, Read, Refused, Form, EditLine, ExchangeText}
use Rattle.exchange_text.specs.ExchangeText.{wanted_exchange}

abbrev pub of_edit : EditRead → ChangeRead
of_edit (edit.Read e) = Read (step e)
of_edit (edit.Refused n) = Refused n

-- the change that a buffer says for a program, or the first refusal that it meets: 12 to 16 for an edit line; 12, 13,
-- 21, 16 and 23 for an exchange
abbrev pub wanted_change : Form → Program → List ℕ → ChangeRead
wanted_change EditLine p s = of_edit (wanted_edit p s)
wanted_change ExchangeText p s = wanted_exchange p s
