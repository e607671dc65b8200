-- The reference model (paper: the plain book). It holds a program whose edges are a set: a list without repeats, whose
-- order says nothing. It is fed an edit line or the text of an exchange, is told which of the two it is, and is fed the
-- lengths of the output, of the working buffer and of an exchange's second buffer; it knows nothing of marks, of files
-- that were written, or of which repair is called.
use Rattle.std.specs.Prelude.{ℕ, cond, List, [], ◌∷◌, ◌++◌, eqb}
use Rattle.program.specs.Program.{Edge, Program}
use Rattle.program.specs.Chosen.{sizes_of, numbers}
use Rattle.program.specs.Checks.{first_met, buffer_rows}
use Rattle.std.specs.Prelude.{None, Some}
use Rattle.edit.specs.Edits.{old_edge, new_edge}
use Rattle.edit.specs.Editing.{without, inserted, with_edges}
use Rattle.edit.specs.declared.Edit.{Edit}
use Rattle.edit.specs.declared.Edit.TheVariants.{Add, Drop, Replace}
use Rattle.exchange.specs.Changes.{Change, step, whole, ChangeRead, Read, Refused, Form}
use Rattle.exchange.specs.Changing.{others, with_nodes}
use Rattle.exchange.specs.Lengths.{measured_rows, work_first}
use Rattle.exchange_text.specs.Wanted.{wanted_change}

-- an add: the edge joins the set; a drop: it leaves; a replace: it leaves and joins again with the new label
abbrev pub book_edges : Edit → List Edge → List Edge
book_edges (Add s) es = new_edge (Add s) ∷ es
book_edges (Drop s) es = without (old_edge (Drop s)) es
book_edges (Replace s l) es = new_edge (Replace s l) ∷ without (old_edge (Replace s l)) es

-- an exchange: the routine has the new count of nodes (paper: places) and, for its old edges, the new ones
abbrev pub book_changed : Change → Program → Program
book_changed (step e) b = with_edges b (book_edges e b.edges)
book_changed (whole x) b = with_edges (with_nodes b x.routine x.nodes) (x.edges ++ others x.routine b.edges)

-- the first number, or the second where that is 0
abbrev pub first_of : ℕ → ℕ → ℕ
first_of n m = cond (eqb n 0) m n

-- the refusal of a line or text; else, for an exchange, that of the lengths which it decides on
abbrev pub change_refusal : ChangeRead → Program → ℕ → ℕ → ℕ
change_refusal (Read c) b work second = first_met (measured_rows c b second work)
change_refusal (Refused n) b work second = n

-- the first refusal after the marks' length and before 17 that a call meets, or 0. By an edit line: the lengths of the
-- output and of the working buffer (10, 11), then the line (12 to 16). By an exchange: the length of the output (10), the
-- text (12, 13, 21, 16, 23), then the lengths of the second buffer and of the working buffer (9, 11). Whether an edge is
-- there, and how many there are, is read off the set
unfoldable pub book_refusal : Form → Program → List ℕ → ℕ → ℕ → ℕ → ℕ
book_refusal k b text output work second =
    first_of (first_met (buffer_rows (numbers (sizes_of b)) None (Some output) (work_first k work)))
    (change_refusal (wanted_change k b text) b work second)

-- the program after a call: a refused one leaves it
abbrev pub book_read : ChangeRead → Program → Program
book_read (Read c) b = book_changed c b
book_read (Refused n) b = b

abbrev pub unless_refused : ℕ → Program → Program → Program
unless_refused n changed b = cond (eqb n 0) changed b

unfoldable pub book_after : Form → Program → List ℕ → ℕ → ℕ → ℕ → Program
book_after k b text output work second =
    unless_refused (book_refusal k b text output work second) (book_read (wanted_change k b text) b) b

-- the program of a book: its edges in ascending order
unfoldable pub sorted : List Edge → List Edge
sorted [] = []
sorted (e ∷ es) = inserted e (sorted es)

abbrev pub book_program : Program → Program
book_program b = with_edges b (sorted b.edges)
