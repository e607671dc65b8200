-- What the functions that make up a turn promise of each other; nothing here has to be believed.
use Rattle.std.specs.Prelude.{ℕ, ◌≤◌, ◌≡◌, List, length, take, drop}
use Rattle.writer.specs.WriteAnswers.{WriteAnswer}
use Rattle.writer.specs.WriteAnswers.{Written, Refused}
use Rattle.repair.specs.Desk.{Desk}
use Rattle.report.specs.Report.{block_text, refused_edit, block_size}

-- what is printed for a repair's answer and what is held after it, whatever that is
abbrev pub edited_text : WriteAnswer → Desk → List ℕ
edited_text (Written n) d = block_text d.file d.marks block_size
edited_text (Refused n line) d = refused_edit n

-- a count of l's bytes, in place of n: it splits l where n does
pub record Within (n : ℕ) (l : List ℕ) (r : ℕ) : Type 0 where
  pub inside : r ≤ length l
  pub counted : r ≡ length (take r l)
  pub front : take r l ≡ take n l
  pub rest : drop r l ≡ drop n l

-- no analysis takes so many iterations
abbrev pub most_iterations : ℕ
most_iterations = 67125248
