-- A repair (paper): it reads a file, its marks and a change, which is one edit line or the text of an exchange, makes
-- the marks of the changed program, and writes that program. One function of everything that is lent gives the answer
-- and every lent byte afterwards.
use Rattle.std.specs.Prelude.{ℕ, ◌≡◌, Bool, true, false, List, ◌++◌, length, drop, replicate}
use Rattle.program.specs.Program.{Program}
use Rattle.program.specs.Reading.{read_file}
use Rattle.program.specs.Checks.{first_met, verdict_of, checked}
use Rattle.program.specs.Writing.{written}
use Rattle.program.specs.Verdicts.{Verdict}
use Rattle.program.specs.Verdicts as verdict
use Rattle.std.specs.Prelude.{Some}
use Rattle.writer.specs.WriteAnswers.{WriteAnswer}
use Rattle.writer.specs.WriteAnswers.{Written, Refused}
use Rattle.reach.specs.Marks.{fresh_marks}
use Rattle.analysis.specs.Answers.{owned}
use Rattle.callgraph.specs.Components.{Bits}
use Rattle.exchange.specs.Changes.{Change, step, whole, ChangeRead, Read, Refused as Denied, Form}
use Rattle.exchange.specs.Changing.{changed_program}
use Rattle.exchange.specs.Lengths.{work_first, measured_rows}
use Rattle.exchange_text.specs.Wanted.{wanted_change}
use Rattle.inside_out.specs.Reanalyzed.{ReanalyzedBy}
use Rattle.repair.specs.RepairAnswers.{RepairAnswer}
use Rattle.repair.specs.RepairAnswers as repair

-- the answer, and the lent bytes afterwards; `second` is the second buffer of an exchange
pub record After : Type 0 where
  pub answer : WriteAnswer
  pub marks : List ℕ
  pub output : List ℕ
  pub work : List ℕ
  pub second : List ℕ

abbrev pub afterwards : WriteAnswer → List ℕ → List ℕ → List ℕ → List ℕ → After
afterwards answer marks output work second =
    record { answer = answer; marks = marks; output = output; work = work; second = second }

-- ---- what is lent, afterwards

-- a refusal that is checked before the marks leaves everything alone
abbrev pub untouched : ℕ → ℕ → List ℕ → List ℕ → List ℕ → List ℕ → After
untouched n line marks output work second = afterwards (Refused n line) marks output work second

-- so many zeros as there are bytes
abbrev pub zeroed : List ℕ → List ℕ
zeroed bytes = replicate (length bytes) 0

-- a refusal of marks that are foreign: the working buffer is all zero
abbrev pub foreign : ℕ → ℕ → List ℕ → List ℕ → List ℕ → List ℕ → After
foreign n line marks output work second = afterwards (Refused n line) marks output (zeroed work) second

-- the program's bytes at the start of the output, whose other bytes stay
abbrev pub written_over : Program → List ℕ → List ℕ
written_over p output = written p ++ drop (length (written p)) output

-- a change that is not refused, and p after it: p stands, written, at the start of the output, and the working buffer
-- is all zero. An edit turns the marks into those of p; an exchange leaves them, and those of p are in the second
-- buffer
abbrev pub repaired_to : Change → Program → List ℕ → List ℕ → List ℕ → List ℕ → After
repaired_to (step e) p marks output work second =
    afterwards (Written (length (written p))) (fresh_marks p) (written_over p output) (zeroed work) second
repaired_to (whole x) p marks output work second =
    afterwards (Written (length (written p))) marks (written_over p output) (zeroed work) (fresh_marks p)

-- ---- the checks, in their order: the file, the lengths of what is lent, the line or text, for an exchange the lengths
-- that depend on it, and last the marks

abbrev pub checked_repair : Form → List ℕ → List ℕ → List ℕ → List ℕ → Verdict
checked_repair k file marks output work =
    checked file (Some (length marks)) (Some (length output)) (work_first k (length work))

-- the marks (17)
abbrev pub owned_by : Verdict → Change → Program → List ℕ → List ℕ → List ℕ → List ℕ → After
owned_by verdict.Accepted c wanted marks output work second = repaired_to c wanted marks output work second
owned_by (verdict.Refused n line) c wanted marks output work second = foreign n line marks output work second

abbrev pub changed_by : Change → Program → List ℕ → List ℕ → List ℕ → List ℕ → After
changed_by c p marks output work second = owned_by (owned p marks) c (changed_program c p) marks output work second

-- the second buffer and the working buffer of an exchange (9, 11)
abbrev pub measured : Change → Program → List ℕ → List ℕ → Verdict
measured c p work second = verdict_of (first_met (measured_rows c p (length second) (length work)))

abbrev pub measured_by : Verdict → Change → Program → List ℕ → List ℕ → List ℕ → List ℕ → After
measured_by verdict.Accepted c p marks output work second = changed_by c p marks output work second
measured_by (verdict.Refused n line) c p marks output work second = untouched n line marks output work second

-- the edit line (12 to 16), or the text of an exchange (12, 13, 21, 16, 23)
abbrev pub wanted_by : ChangeRead → Program → List ℕ → List ℕ → List ℕ → List ℕ → After
wanted_by (Read c) p marks output work second = measured_by (measured c p work second) c p marks output work second
wanted_by (Denied n) p marks output work second = untouched n 0 marks output work second

abbrev pub repaired_by : Form → Verdict → Program → List ℕ → List ℕ → List ℕ → List ℕ → List ℕ → After
repaired_by k verdict.Accepted p marks text output work second =
    wanted_by (wanted_change k p text) p marks output work second
repaired_by k (verdict.Refused n at) p marks text output work second = untouched n at marks output work second

-- ---- a repair, for a file, marks, an edit line or a text, an output, a working buffer and, if it is an exchange, a
-- second buffer

unfoldable pub repaired : Form → List ℕ → List ℕ → List ℕ → List ℕ → List ℕ → List ℕ → After
repaired k file marks text output work second =
    repaired_by k (checked_repair k file marks output work) (read_file file).program marks text output work second

-- ---- the numbers of an inside-out repair's answer

-- the answer without the reanalyzed routines
abbrev pub plain : RepairAnswer → WriteAnswer
plain (repair.Repaired size routines) = Written size
plain (repair.Refused n line) = Refused n line

-- the reanalyzed routines as a number, a bit each; 0 where there is none
abbrev pub reanalyzed : RepairAnswer → ℕ
reanalyzed (repair.Repaired size routines) = routines
reanalyzed (repair.Refused n line) = 0

-- the number that the inside-out repair answers for them: for a change of p that is accepted a bit each, and 0 for a
-- refused call
abbrev pub InsideOutNumber : Bool → ChangeRead → Program → ℕ → Type 0
InsideOutNumber true (Read c) p n = Bits (ReanalyzedBy c p) n
InsideOutNumber true (Denied m) p n = n ≡ 0
InsideOutNumber false w p n = n ≡ 0
