-- The refusals as the code has them, and the numbers of the table of refusals that they stand for.
use Rattle.std.specs.Prelude.{ℕ, ◌≡◌, Option, Some, None, Result, Ok, Err}
use Rattle.rows.specs.Rows.{Pair, no_pair}
use Rattle.rows.specs.Decoded.{pair_of}
use Rattle.rows.specs.declared.FaultyPair.{FaultyPair}
use Rattle.rows.specs.declared.TableFault.{TableFault}
use Rattle.rows.specs.declared.TableFault.TheVariants.{NotMet, MetTwice}
use Rattle.program.specs.Verdicts.{Verdict, Accepted, Refused}
use Rattle.program.specs.declared.refusal.Refusal.{Refusal}
use Rattle.program.specs.declared.refusal.Refusal.TheVariants.{BadLine, UnknownKind, WrongCount, OutOfOrder, OutOfRange, TableFull}
use Rattle.program.specs.declared.refusal.Refusal.TheVariants.{EndCount, FileEnd, MarksLength, OutputShort, WorkLength, EditLine}
use Rattle.program.specs.declared.refusal.Refusal.TheVariants.{EditRange, NoSuchEdge, EdgeExists, EdgesFull, ForeignMarks}
use Rattle.program.specs.declared.refusal.Refusal.TheVariants.{InputTooLong, PairNotMet, PairMetTwice, ExchangeOrder, GaveUp}
use Rattle.program.specs.declared.refusal.Refusal.TheVariants.{TooLarge, TooLargeToSave, ForeignSaved}
use Rattle.program.specs.declared.refusal.RefusedAt.{RefusedAt}

-- the number of a refusal in the table
abbrev pub number : Refusal → ℕ
number BadLine = 1
number UnknownKind = 2
number WrongCount = 3
number OutOfOrder = 4
number OutOfRange = 5
number TableFull = 6
number EndCount = 7
number FileEnd = 8
number MarksLength = 9
number OutputShort = 10
number WorkLength = 11
number EditLine = 12
number EditRange = 13
number NoSuchEdge = 14
number EdgeExists = 15
number EdgesFull = 16
number ForeignMarks = 17
number InputTooLong = 18
number (PairNotMet x) = 19
number (PairMetTwice x) = 20
number ExchangeOrder = 21
number GaveUp = 22
number TooLarge = 23
number TooLargeToSave = 24
number ForeignSaved = 25

-- the number of a refusal, or 0 where nothing is refused
abbrev pub number_met : {A : Type 0} → Result A Refusal → ℕ
number_met (Ok x) = 0
number_met (Err e) = number e

-- the verdict that an answer stands for
abbrev pub verdict_by : {A : Type 0} → Result A RefusedAt → Verdict
verdict_by (Ok x) = Accepted
verdict_by (Err e) = Refused (number e.refusal) e.line

-- a pair, where there is one
abbrev pub pair_told : Option FaultyPair → Pair
pair_told None = no_pair
pair_told (Some x) = pair_of x

-- the pair that a table is refused for: none where another refusal decides
abbrev pub pair_in : Refusal → Pair
pair_in (PairNotMet x) = pair_of x
pair_in (PairMetTwice x) = pair_of x
pair_in e = no_pair

-- what a table is refused for, with line 0
abbrev pub refused_table : TableFault → RefusedAt
refused_table (NotMet x) = record { refusal = PairNotMet x; line = 0 }
refused_table (MetTwice x) = record { refusal = PairMetTwice x; line = 0 }

abbrev pub Refuses : TableFault → RefusedAt → Type 0
Refuses fault e = e ≡ refused_table fault
