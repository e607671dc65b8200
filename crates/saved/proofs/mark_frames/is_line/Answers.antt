-- `saved::mark_frames::is_line` meets its contract.
use mathlib.Core.Path.{◌≡◌, ap, ◌∙◌}
use Prim.Native.Nat.{◌+◌, ◌*◌}
use native.Mathlib.Omega.{arith}
use lib.Pointwise.{bytes_decides}
use lib.ListN.{length, take, length-append, length-take}
use borrow.Author.Rules.{rules}
use Rattle.text.specs.Hex.{hex_line}
use Rattle.text.specs.Lines.{max_numbers}
use Rattle.text.proofs.RoundTrip.{length_hex}
use Rattle.analysis.specs.Answers.{same}
use Rattle.analysis.proofs.AnswersByChecks.{same_decides}
use Rattle.saved.proofs.TextCompared.{line_put}
use Rattle.saved.proofs.mark_frames.is_line.Goals as goal

pub returns : goal.returns
returns c =
    let l = c.args.l in
    let n : length l.numbers ≡ max_numbers = search rules in
    let h : length (hex_line (take l.count l.numbers)) ≡ 2 * l.count + 1 = simp (length-append, length_hex, length-take, n) (omega (arith, c.requires)) in
    c.eq.ensures ∙ same_decides _ _ _ (bytes_decides c.args.s.now _) ∙ ap (same c.args.s.now) (line_put _ {size = c.put_line-size.result} c.put_line-size.ensures.out_after (omega (arith, h, c.put_line-size.ensures.value)) (omega (arith, h, c.requires)))
