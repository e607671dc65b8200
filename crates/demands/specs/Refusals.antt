-- The table of refusals (paper: "Refusals by place"): for each row its case, for each function its rows in their order.
-- The rows of the lengths (`buffer_rows`), of the text of an exchange (`exchange_rows`) and the lengths that depend on it
-- (`length_rows`), of the marks (`foreign_row`), of the limit (`limit_row`) and of saved marks (`early_rows`, `late_rows`)
-- stand where the answers are defined.
use Rattle.std.specs.Prelude.{ℕ, ◌+◌, ◌<◌, ◌≤◌, ◌≡◌, ◌≢◌, ◌⊎◌, Bool, true, false, cond, ◌&&◌, ◌||◌, not, List, [], ◌∷◌, ◌++◌, ltb, leb, eqb, length}
use Rattle.text.specs.Lines.{lines, numbers_of, line_from}
use Rattle.text.specs.declared.Line.{Line}
use Rattle.program.specs.Program.{Program}
use Rattle.program.specs.Chosen.{sizes_of, sizes_fit, numbers}
use Rattle.program.specs.Frames.{size, kind}
use Rattle.rows.specs.Rows.{TableRow, Pair, times_met}
use Rattle.program.specs.Reading.{Progress, start, ordered, ranged, full, miscounted, after, pairs_of}
use Rattle.program.specs.Checks.{Row, row, first_met, buffer_rows}
use Rattle.std.specs.Prelude.{None, Some}
use Rattle.analysis.specs.Answers.{foreign_row, limit_row}
use Rattle.edit.specs.Edits.{old_edge, new_edge}
use Rattle.edit_line.specs.EditLines.{only_line, bad_line, out_of_range, edit_in}
use Rattle.edit.specs.Editing.{has_edge}
use Rattle.edit.specs.declared.Edit.{Edit}
use Rattle.edit.specs.declared.Edit.TheVariants.{Add, Drop, Replace}
use Rattle.exchange_text.specs.ExchangeText.{text_lines, exchange_in, exchange_rows}
use Rattle.exchange.specs.Lengths.{sizes_after, lengths_of, length_rows, work_first}
use Rattle.exchange.specs.Changes.{Form, EditLine, ExchangeText}
use Rattle.saved.specs.Answers.{Way, over, back, given_marks, early_rows, late_rows}
use Rattle.desk.specs.Entries.{Entry, read, sizes, faulty-pair, write, analyze, next_violation, next_blocked, prune}
use Rattle.desk.specs.Entries.{marks_to_frames, frames_to_marks, repair_forward, repair_inside_out, exchange_sizes, exchange_forward}
use Rattle.desk.specs.Entries.{exchange_inside_out, Lent, program_in}

-- ---- a file

-- the rows of a line, after the frames before it
abbrev pub line_rows : Progress → Line → List Row
line_rows s l =
    -- empty, odd, other character, or no 0A: such a line is kept as one without a number
    row 1 (eqb l.count 0)
    -- unknown kind
    ∷ row 2 (eqb (kind l) 0)
    -- wrong count of numbers for the kind; a row's goes by the states that are known, 0 before the header
    ∷ row 3 (not (eqb l.count (size s.program.automaton.states (kind l))))
    -- order broken; first frame not 50; a second 50; a routine frame left out
    -- transitions (paper: rule lines) and rows in one file
    ∷ row 4 (not (ordered s.last s.frames s.program.routines (length s.program.nodes)
    (length s.program.automaton.transitions) (kind l) l))
    -- a number outside its range, or an edge (paper: a step) from the exit
    ∷ row 5 (not (ranged s.program (kind l) l))
    -- the 257th edge, the 513th transition, the 257th row
    ∷ row 6 (full (length s.program.edges) (length s.program.automaton.transitions) (length s.rows)
    (kind l))
    -- the end count is wrong
    ∷ row 7 (miscounted s.frames (kind l) l)
    ∷ []

abbrev pub line_number : Progress → List ℕ → ℕ
line_number s l = first_met (line_rows s (line_from (numbers_of l)))

-- the rows (of this table of refusals) for a state and an action, by the rows of a file
abbrev pub pair_rows : List TableRow → Pair → List Row
pair_rows rs p =
    -- a state-action pair met by no row
    row 19 (eqb (times_met p rs) 0)
    -- a pair met twice
    ∷ row 20 (ltb 1 (times_met p rs))
    ∷ []

-- pair after pair, by state and then by action
abbrev pub table_rows : List TableRow → List Pair → List Row
table_rows rs [] = []
table_rows rs (p ∷ ps) = pair_rows rs p ++ table_rows rs ps

abbrev pub table_number : Progress → ℕ
table_number s = first_met (table_rows s.rows (pairs_of s.program))

-- the refusal of a file, after some frames: a number at a line. The first faulty line decides, in it the lowest number;
-- a line after the end is 8, before 1 to 7
pub data Faulty : Progress → List (List ℕ) → ℕ → ℕ → Type 0 where
  -- the input ends without an end frame
  unended : {s : Progress} → s.ended ≡ false → Faulty s [] 8 (s.frames + 1)
  -- every line is good, but not the table of a file with rows: the first faulty pair decides, and there is no line
  by_table : {s : Progress} → s.ended ≡ true → s.rows ≢ [] → table_number s ≢ 0 → Faulty s [] (table_number s) 0
  -- every line is good, and the table of a file with rows, but the product of the sizes is above 16,384
  by_sizes : {s : Progress} → s.ended ≡ true → (s.rows ≢ [] → table_number s ≡ 0) → sizes_fit s.program ≡ false
      → Faulty s [] 23 0
  -- a line follows the end frame
  after_end : {s : Progress} {l : List ℕ} {ls : List (List ℕ)} → s.ended ≡ true → Faulty s (l ∷ ls) 8 (s.frames + 1)
  -- this line meets a row
  here : {s : Progress} {l : List ℕ} {ls : List (List ℕ)} → s.ended ≡ false → line_number s l ≢ 0
      → Faulty s (l ∷ ls) (line_number s l) (s.frames + 1)
  -- it meets none, and a later line decides
  later : {s : Progress} {l : List ℕ} {ls : List (List ℕ)} {n line : ℕ} → s.ended ≡ false → line_number s l ≡ 0
      → Faulty (after s (line_from (numbers_of l))) ls n line → Faulty s (l ∷ ls) n line

abbrev pub FaultyFile : List ℕ → ℕ → ℕ → Type 0
FaultyFile file n line = Faulty start (lines file) n line

-- ---- the pair that the table of a file with rows is refused for

-- of two pairs this is the earlier: its state is the smaller, or the states are the same and its action is the smaller
abbrev pub EarlierPair : Pair → Pair → Type 0
EarlierPair x y = (x.state < y.state) ⊎ ((x.state ≡ y.state) × (x.action < y.action))

-- of the pairs of so many states and actions this is the first faulty one by some rows, and this is its number
pub record FirstFaulty (rs : List TableRow) (states actions n : ℕ) (x : Pair) : Type 0 where
  pub state : x.state < states
  pub action : x.action < actions
  -- no row meets it (19), or two or more do (20)
  pub faulty : ((n ≡ 19) × (times_met x rs ≡ 0)) ⊎ ((n ≡ 20) × (2 ≤ times_met x rs))
  -- exactly one row meets each earlier pair
  pub earlier : (y : Pair) → y.state < states → y.action < actions → EarlierPair y x → times_met y rs ≡ 1

-- the number and the first faulty pair of a file, after some frames: every line is good, and the file has rows
pub data FaultyPair : Progress → List (List ℕ) → ℕ → Pair → Type 0 where
  of_the_table : {s : Progress} {n : ℕ} {x : Pair} → s.ended ≡ true → s.rows ≢ []
      → FirstFaulty s.rows s.program.automaton.states s.program.automaton.actions n x
      → FaultyPair s [] n x
  after_a_line : {s : Progress} {l : List ℕ} {ls : List (List ℕ)} {n : ℕ} {x : Pair} → s.ended ≡ false
      → line_number s l ≡ 0 → FaultyPair (after s (line_from (numbers_of l))) ls n x → FaultyPair s (l ∷ ls) n x

abbrev pub FaultyPairOf : List ℕ → ℕ → Pair → Type 0
FaultyPairOf file n x = FaultyPair start (lines file) n x

-- ---- an edit line, for a program

abbrev pub adds : Edit → Bool
adds (Add s) = true
adds (Drop s) = false
adds (Replace s l) = false

abbrev pub drops : Edit → Bool
drops (Add s) = false
drops (Drop s) = true
drops (Replace s l) = false

abbrev pub edit_rows : Program → Line → List Row
edit_rows p l =
    -- faults as in 1 to 3, or more than one line
    row 12 (bad_line l)
    -- as 5
    ∷ row 13 (out_of_range p l)
    -- drop or replace: the edge is not there
    ∷ row 14 (not (adds (edit_in l)) && not (has_edge (old_edge (edit_in l)) p.edges))
    -- add or replace: the wanted edge is there
    ∷ row 15 (not (drops (edit_in l)) && has_edge (new_edge (edit_in l)) p.edges)
    -- add: 256 edges already
    ∷ row 16 (adds (edit_in l) && leb 256 (length p.edges))
    ∷ []

-- ---- what a function checks after the file: the lengths of its buffers (9 to 11), an edit line (12 to 16), the marks
-- (17) or the limit (22); an exchange has its text (12, 13, 21, 16, 23) before the lengths that depend on it (9, 11)

-- how many bytes the marks of the file's program have
abbrev pub marks_length : Lent → ℕ
marks_length b = numbers (sizes_of (program_in b))

abbrev pub change_rows : Form → Program → List ℕ → List Row
change_rows EditLine p s = edit_rows p (only_line s)
change_rows ExchangeText p s = exchange_rows p (text_lines s)

-- the second buffer and the working buffer of an exchange
abbrev pub later_rows : Form → Program → List ℕ → ℕ → ℕ → List Row
later_rows EditLine p s second work = []
later_rows ExchangeText p s second work =
    length_rows (lengths_of (sizes_of p) (sizes_after (exchange_in (text_lines s)) p)) second work

abbrev pub repair_rows : Form → Lent → List Row
repair_rows k b =
    buffer_rows (marks_length b) (Some (length b.marks)) (Some (length b.output)) (work_first k (length b.work))
    ++ (change_rows k (program_in b) b.text
    ++ (later_rows k (program_in b) b.text (length b.second) (length b.work)
    ++ foreign_row (program_in b) b.marks ∷ []))

-- of functions that are lent marks and a working buffer
abbrev pub marks_rows : Lent → List Row
marks_rows b = buffer_rows (marks_length b) (Some (length b.marks)) None (Some (length b.work))

-- of functions that move saved marks, by what is given: 24, 9, 11, 25 and 10
abbrev pub move_rows : Way → List ℕ → Lent → List Row
move_rows way given b =
    early_rows (program_in b) (given_marks way given) (length b.work)
    ++ late_rows way (program_in b) given (length b.output)

abbrev pub rows : Entry → Lent → List Row
rows read b = []
rows sizes b = []
rows faulty-pair b = []
rows write b = buffer_rows (marks_length b) None (Some (length b.output)) None
rows analyze b = marks_rows b ++ limit_row (program_in b) b.limit ∷ []
rows prune b = marks_rows b
rows next_violation b = marks_rows b ++ foreign_row (program_in b) b.marks ∷ []
rows next_blocked b = marks_rows b ++ foreign_row (program_in b) b.marks ∷ []
rows marks_to_frames b = move_rows over b.marks b
rows frames_to_marks b = move_rows back b.text b
rows repair_forward b = repair_rows EditLine b
rows repair_inside_out b = repair_rows EditLine b
rows exchange_sizes b = change_rows ExchangeText (program_in b) b.text
rows exchange_forward b = repair_rows ExchangeText b
rows exchange_inside_out b = repair_rows ExchangeText b

-- ---- the refusals that leave the working buffer all zero: those by what an analysis found, and whatever is checked
-- after it

-- does it move saved marks?
abbrev pub is_move : Entry → Bool
is_move read = false
is_move sizes = false
is_move faulty-pair = false
is_move write = false
is_move analyze = false
is_move next_violation = false
is_move next_blocked = false
is_move prune = false
is_move marks_to_frames = true
is_move frames_to_marks = true
is_move repair_forward = false
is_move repair_inside_out = false
is_move exchange_sizes = false
is_move exchange_forward = false
is_move exchange_inside_out = false

abbrev pub clears : Entry → ℕ → Bool
clears e n = cond (is_move e) (eqb n 25 || eqb n 10) (eqb n 17 || eqb n 22)

-- ---- the number that is returned, and its line

pub data Returned (e : Entry) (b : Lent) : ℕ → ℕ → Type 0 where
  -- the file's refusal, with its line
  of_the_file : {n line : ℕ} → FaultyFile b.file n line → Returned e b n line
  -- no refusal of the file: the first row that is met, or 0; these have no line
  of_the_rest : ((n line : ℕ) → ¬ (FaultyFile b.file n line)) → Returned e b (first_met (rows e b)) 0
