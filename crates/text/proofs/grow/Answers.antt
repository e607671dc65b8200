-- `text::grow` meets its contract: past the numbers that are kept the store of `grown` is past the end.
use Rattle.std.proofs.Common.{◌≡◌, length, arith, rules}
use lib.Seq.{set_out}
use Rattle.text.specs.Lines.{max_numbers}
use Rattle.text.proofs.grow.Goals as goal

pub returns-else-l-lt-MAX_NUMBERS : goal.returns-else-l-lt-MAX_NUMBERS
returns-else-l-lt-MAX_NUMBERS c =
    let l = c.args.l in
    let kept : length l.numbers ≡ max_numbers = search rules in
    rw (set_out l.numbers l.count c.args.x (omega arith))
