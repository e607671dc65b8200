-- `saved::write_marks` meets its contract.
use mathlib.Core.Path.{refl, ap, ◌∙◌}
use mathlib.Core.List.{List, ◌++◌}
use Prim.Native.Nat.{ℕ}
use lib.ListN.{length, drop}
use lib.Seq.{take-length}
use Rattle.saved.proofs.MovesAnswered.{short_refused, room_written}
use Rattle.saved.proofs.write_marks.Goals as goal

pub returns-then-output-size : goal.returns-then-output-size
returns-then-output-size c =
    let z = c.args in
    rw c.into.ensures (short_refused z.marks.now z.output.now c.if-output-size.true)

pub returns : goal.returns
returns c =
    let z = c.args in
    room_written z.marks.now z.output.now c.if-output-size.false refl (c.copy-copied.ensures.1 ∙ ap (λ (l : List ℕ). l ++ drop (length z.marks.now) z.output.now) (take-length z.marks.now))
