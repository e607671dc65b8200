use Rattle.stages.proofs.ExchangeStages.{part_room}
use Prim.Native.Nat.{ℕ}
use native.Mathlib.Omega.{arith}
use mathlib.Core.Path.{◌≡◌, sym, ap, ◌∙◌}
use borrow.Author.Rules.{rules}
use lib.ListN.{length, take, replicate}
use Rattle.rewrite.proofs.check_own_within.Goals as goal
use Rattle.rewrite.proofs.check_own_within.Goals.{Start}

room : (s : Start) → length s.args.marks.now ≡ length (take (length s.args.marks.now) s.args.work.now)
room s = part_room _ s.args.work.now (omega (arith, s.requires.marks_len.0, s.requires.marks_len.1))

pub slice_bounds-check_own-end-2 : goal.slice_bounds-check_own-end-2
slice_bounds-check_own-end-2 c = room (goal.at.slice_bounds-check_own-end-2 c).Start

pub check_own-own-requires : goal.check_own-own-requires
check_own-own-requires c =
    record { well_formed = c.requires.well_formed; marks_len = (c.requires.marks_len.0, sym (room (goal.at.check_own-own-requires c).Start) ∙ c.requires.marks_len.0) }

pub shape_of-work : goal.shape_of-work
shape_of-work c = search rules

pub returns : goal.returns
returns c =
    (c.check_own-own.ensures.0, c.clear_whole.ensures ∙ ap (λ (n : ℕ). replicate n 0) (shape_of-work c))
