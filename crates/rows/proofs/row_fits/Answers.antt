-- `rows::row_fits` meets its contract.
use Rattle.rows.proofs.row_fits.Goals as goal

pub returns : goal.returns
returns c = rw (c.has_no_bit_from.ensures, c.has_no_bit_from-2.ensures)
