-- `input::starts_end` meets its contract: what is left of the text starts with 45 where its first line does.
use Rattle.std.proofs.Common.{◌≡◌, ◌∙◌, ◌-◌, length, take, drop, arith}
use Rattle.std.proofs.lemmas.Slice.{between_to_end}
use Rattle.input.proofs.LineEnds.{starts_with_end}
use Rattle.input.proofs.starts_end.Goals as goal

pub returns : goal.returns
returns c =
    let s = c.args.input.now in
    let at = c.args.at in
    let rest : take (length s - at) (drop at s) ≡ drop at s = between_to_end s at (length s) (omega arith) in
    rw rest at c.starts_with.ensures.value ∙ starts_with_end (drop at s)
