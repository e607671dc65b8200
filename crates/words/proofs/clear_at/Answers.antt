-- `words::clear_at` meets its contract: past the end there is no flag to change.
use Rattle.base.specs.Bits.{with_bit, without_bit}
use Rattle.words.proofs.BitsChanged.{shifted_one}
use Rattle.words.proofs.FlagsChanged.{clear_flags, past_flags}
use Rattle.words.proofs.clear_at.Goals as goal

pub returns-then-i-words : goal.returns-then-i-words
unfolding with_bit without_bit
returns-then-i-words c =
    let a = c.args in
    rw (shifted_one a.at) (clear_flags a.words.now a.at c.if-i-words.true)

pub returns-else-i-words : goal.returns-else-i-words
returns-else-i-words c = past_flags c.args.words.now c.args.at _ c.if-i-words.false
