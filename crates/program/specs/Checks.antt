-- The checks that a call makes before it touches anything: the file, and then the lengths of the buffers that it is
-- lent.
use Rattle.std.specs.Prelude.{ℕ, ◌≤◌, ◌≡◌, Bool, false, cond, not, List, [], ◌∷◌, ltb, eqb}
use Rattle.program.specs.Sizes.{output_size}
use Rattle.program.specs.Chosen.{sizes_of, numbers}
use Rattle.program.specs.Reading.{read_file}
use Rattle.program.specs.Verdicts.{Verdict}
use Rattle.program.specs.Verdicts.{Accepted, Refused}
use Rattle.std.specs.Prelude.{Option, None, Some}

-- ---- rows of the table of refusals

-- a row: its number, and whether its case is met
pub record Row : Type 0 where
  pub number : ℕ
  pub met : Bool

abbrev pub row : ℕ → Bool → Row
row n t = record { number = n; met = t }

-- the number of the first row that is met; 0 where none is
unfoldable pub first_met : List Row → ℕ
first_met [] = 0
first_met (r ∷ rs) = cond r.met r.number (first_met rs)

-- the verdict by such a number, which has no line
abbrev pub verdict_of : ℕ → Verdict
verdict_of n = cond (eqb n 0) Accepted (Refused n 0)

-- a check that is made only where the one before refuses nothing
abbrev pub followed_by : Verdict → Verdict → Verdict
followed_by Accepted v = v
followed_by (Refused n line) v = Refused n line

-- ---- the rows of lengths: a buffer that a call does not have meets none

-- the length of a buffer that a call is lent; or the call has no such buffer
abbrev pub Length : Type 0
Length = Option ℕ

-- there is such a buffer, and it has another length than this
abbrev pub other_than : ℕ → Length → Bool
other_than size None = false
other_than size (Some n) = not (eqb n size)

-- there is such a buffer, and it is shorter than this
abbrev pub under : ℕ → Length → Bool
under size None = false
under size (Some n) = ltb n size

-- size is how many configurations of the file's program have a number
abbrev pub buffer_rows : ℕ → Length → Length → Length → List Row
buffer_rows size marks output work =
    -- the marks do not have a byte for each of them
    row 9 (other_than size marks)
    -- the output has under 7,712 bytes
    ∷ row 10 (under output_size output)
    -- the working buffer does not have as many
    ∷ row 11 (other_than size work)
    ∷ []

-- ---- the file, and then the lengths

-- a refused file is refused as it is; else the first row decides that the lengths meet
abbrev pub checked_by : Verdict → ℕ → Length → Length → Length → Verdict
checked_by v size marks output work = followed_by v (verdict_of (first_met (buffer_rows size marks output work)))

unfoldable pub checked : List ℕ → Length → Length → Length → Verdict
checked file marks output work =
    let o = read_file file in checked_by o.verdict (numbers (sizes_of o.program)) marks output work

-- ---- what passing these checks says of the buffers

abbrev pub HasLength : ℕ → Length → Type 0
HasLength size None = Unit
HasLength size (Some n) = n ≡ size

abbrev pub HasRoom : ℕ → Length → Type 0
HasRoom size None = Unit
HasRoom size (Some n) = size ≤ n

-- each buffer that there is has its size
pub record Sized (size : ℕ) (marks output work : Length) : Type 0 where
  pub marks-length : HasLength size marks
  pub output_length : HasRoom output_size output
  pub work_length : HasLength size work
