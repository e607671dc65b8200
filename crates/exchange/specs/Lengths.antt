-- The lengths of the buffers of an exchange that depend on its text: those of the second buffer, to which the marks of
-- the new program go, and of the working buffer. They are judged after 23.
use Rattle.std.specs.Prelude.{ℕ, cond, not, List, [], ◌∷◌, leb, eqb}
use Rattle.program.specs.declared.sizes.Sizes.{Sizes}
use Rattle.program.specs.Program.{Program}
use Rattle.program.specs.Chosen.{sizes_of, numbers}
use Rattle.program.specs.Checks.{Row, row}
use Rattle.program.specs.Checks.{Length}
use Rattle.std.specs.Prelude.{None, Some}
use Rattle.exchange.specs.Changes.{Exchange, Change, step, whole, Form, EditLine, ExchangeText}
use Rattle.exchange.specs.Changing.{with_nodes}
use Rattle.exchange.specs.declared.lengths.Lengths.{Lengths}

-- the sizes of the program after an exchange: of the counts of nodes (paper: places) one is new
abbrev pub sizes_after : Exchange → Program → Sizes
sizes_after x p = sizes_of (with_nodes p x.routine x.nodes)

abbrev pub longer : ℕ → ℕ → ℕ
longer n m = cond (leb n m) m n

-- by the sizes before and after: the second buffer has the length of the new marks, the working buffer the longer one
abbrev pub lengths_of : Sizes → Sizes → Lengths
lengths_of z y = record { second = numbers y; work = longer (numbers z) (numbers y) }

-- the rows of these lengths
abbrev pub length_rows : Lengths → ℕ → ℕ → List Row
length_rows wanted second work =
    -- the second buffer does not have the new length
    row 9 (not (eqb second wanted.second))
    -- the working buffer does not have the longer one
    ∷ row 11 (not (eqb work wanted.work))
    ∷ []

-- after an edit line there is no length left to judge
abbrev pub measured_rows : Change → Program → ℕ → ℕ → List Row
measured_rows (step e) p second work = []
measured_rows (whole x) p second work = length_rows (lengths_of (sizes_of p) (sizes_after x p)) second work

-- the working buffer as it is judged before the line or text: that of an exchange is not
abbrev pub work_first : Form → ℕ → Length
work_first EditLine work = Some work
work_first ExchangeText work = None
