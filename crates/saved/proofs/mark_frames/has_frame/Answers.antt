-- `saved::mark_frames::has_frame` meets its contract.
use mathlib.Core.Path.{◌≡◌, ap, ◌∙◌}
use Prim.Native.Nat.{◌+◌, ◌-◌}
use native.Mathlib.Omega.{arith}
use lib.ListN.{take, drop}
use Rattle.text.specs.declared.Line.{Line}
use Rattle.text.specs.Hex.{hex_line}
use Rattle.listing.specs.Listing.{frame_at}
use Rattle.analysis.specs.Answers.{same}
use Rattle.saved.specs.Saved.{saved_kind}
use Rattle.saved.proofs.OldSizes.{old_usable}
use Rattle.saved.proofs.TextCompared.{none_left}
use Rattle.saved.proofs.mark_frames.has_frame.Goals as goal

pub frame_line-l-requires : goal.frame_line-l-requires
frame_line-l-requires c = rw c.old_sizes.ensures (old_usable, c.requires.1)

pub returns-then-s-at-lt-LINE_SIZE : goal.returns-then-s-at-lt-LINE_SIZE
returns-then-s-at-lt-LINE_SIZE c =
    let z = c.args in
    none_left z.s.now z.at z.i c.if-s-at-lt-LINE_SIZE.true

pub is_line-requires : goal.is_line-requires
is_line-requires c =
    let n : c.frame_line-l.result.count ≡ 5 = ap (λ (l : Line). l.count) c.frame_line-l.ensures in
    omega arith

pub returns-else-s-at-lt-LINE_SIZE : goal.returns-else-s-at-lt-LINE_SIZE
returns-else-s-at-lt-LINE_SIZE c =
    let z = c.args in
    let e : z.at + 11 - z.at ≡ 11 = omega arith in
    c.is_line.ensures
    ∙ (λ j. same (take (e j) (drop z.at z.s.now)) (hex_line (take (c.frame_line-l.ensures j).count (c.frame_line-l.ensures j).numbers)))
    ∙ (λ j. same (take 11 (drop z.at z.s.now)) (hex_line (frame_at saved_kind (c.old_sizes.ensures j) z.i)))
