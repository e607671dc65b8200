-- The numbers of refusals: none is 0, and only that of a table has a pair.
use Rattle.std.proofs.Common.{◌≡◌, ◌≤◌, ◌<◌, refl, arith}
use Rattle.rows.specs.Rows.{no_pair}
use Rattle.program.specs.Refusals.{number, pair_in}
use Rattle.program.specs.declared.refusal.Refusal.{Refusal}
use Rattle.program.specs.declared.refusal.Refusal.TheVariants.{BadLine, UnknownKind, WrongCount, OutOfOrder, OutOfRange, TableFull}
use Rattle.program.specs.declared.refusal.Refusal.TheVariants.{EndCount, FileEnd, MarksLength, OutputShort, WorkLength, EditLine}
use Rattle.program.specs.declared.refusal.Refusal.TheVariants.{EditRange, NoSuchEdge, EdgeExists, EdgesFull, ForeignMarks, InputTooLong}
use Rattle.program.specs.declared.refusal.Refusal.TheVariants.{PairNotMet, PairMetTwice, ExchangeOrder, GaveUp, TooLarge, TooLargeToSave}
use Rattle.program.specs.declared.refusal.Refusal.TheVariants.{ForeignSaved}

pub line_alone : (r : Refusal) → number r ≤ 18 → pair_in r ≡ no_pair
line_alone BadLine h = refl
line_alone UnknownKind h = refl
line_alone WrongCount h = refl
line_alone OutOfOrder h = refl
line_alone OutOfRange h = refl
line_alone TableFull h = refl
line_alone EndCount h = refl
line_alone FileEnd h = refl
line_alone MarksLength h = refl
line_alone OutputShort h = refl
line_alone WorkLength h = refl
line_alone EditLine h = refl
line_alone EditRange h = refl
line_alone NoSuchEdge h = refl
line_alone EdgeExists h = refl
line_alone EdgesFull h = refl
line_alone ForeignMarks h = refl
line_alone InputTooLong h = refl
line_alone (PairNotMet x) h = absurd (omega arith)
line_alone (PairMetTwice x) h = absurd (omega arith)
line_alone ExchangeOrder h = refl
line_alone GaveUp h = refl
line_alone TooLarge h = refl
line_alone TooLargeToSave h = refl
line_alone ForeignSaved h = refl

-- no refusal has number 0
pub some_number : (r : Refusal) → 0 < number r
some_number BadLine = omega arith
some_number UnknownKind = omega arith
some_number WrongCount = omega arith
some_number OutOfOrder = omega arith
some_number OutOfRange = omega arith
some_number TableFull = omega arith
some_number EndCount = omega arith
some_number FileEnd = omega arith
some_number MarksLength = omega arith
some_number OutputShort = omega arith
some_number WorkLength = omega arith
some_number EditLine = omega arith
some_number EditRange = omega arith
some_number NoSuchEdge = omega arith
some_number EdgeExists = omega arith
some_number EdgesFull = omega arith
some_number ForeignMarks = omega arith
some_number InputTooLong = omega arith
some_number (PairNotMet x) = omega arith
some_number (PairMetTwice x) = omega arith
some_number ExchangeOrder = omega arith
some_number GaveUp = omega arith
some_number TooLarge = omega arith
some_number TooLargeToSave = omega arith
some_number ForeignSaved = omega arith
