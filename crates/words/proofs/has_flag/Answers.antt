-- `words::has_flag` meets its contract.
use mathlib.Core.Path.{sym}
use borrow.Author.Tests.{le-ltb}
use Rattle.words.proofs.FlagsOfPart.{flag_asked, flag_past}
use Rattle.words.proofs.has_flag.Goals as goal

pub returns-then-i-words : goal.returns-then-i-words
returns-then-i-words c = let a = c.args in flag_asked a.words.now a.at

pub returns-else-i-words : goal.returns-else-i-words
returns-else-i-words c = let a = c.args in rw (le-ltb _ _ c.if-i-words.false) (sym (flag_past a.words.now a.at c.if-i-words.false))
