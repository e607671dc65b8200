-- `text::put_number` meets its contract: the two stores are those of the number's text.
use native.Mathlib.Numerals.{add-one}
use Rattle.text.specs.Hex.{hex}
use Rattle.text.proofs.put_number.Goals as goal

pub returns : goal.returns
unfolding hex
returns c = rw (c.hex_digit-l.ensures, c.hex_digit-h.ensures, add-one)
