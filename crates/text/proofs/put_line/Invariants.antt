-- `text::put_line` meets its contract. The loop's invariant: before turn `k` the text of the first k numbers stands in the
-- slice.
use Rattle.std.proofs.Common.{◌≡◌, length, take}
use lib.Seq.{sets}
use Rattle.text.specs.Hex.{hex}
use Rattle.text.proofs.put_line.Given as goal

abbrev pub invariant-loop-k : goal.invariant-loop-k
invariant-loop-k l =
    (l.out ≡ sets l.initial.out l.at (hex (take l.k l.l.numbers))) × (length l.out ≡ length l.initial.out)
