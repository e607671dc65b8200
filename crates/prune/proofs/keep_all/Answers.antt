use mathlib.Core.Path.{◌∙◌}
use Rattle.prune.proofs.PassesKeep.{passing_none, passing_more, passing_end, left_less}
use Rattle.prune.proofs.keep_all.Goals as goal

pub loop-more-init : goal.loop-more-init
loop-more-init c = let u = c.requires.usable.0 in (u, passing_none _ u _ _)

pub keep_pass-more-requires : goal.keep_pass-more-requires
keep_pass-more-requires c =
    let z = c.requires in
    record { usable = z.usable; marks_len = (z.marks_len.0, c.loop-more.invariant.1.len ∙ z.marks_len.1) }

pub loop-more-smaller : goal.loop-more-smaller
loop-more-smaller c =
    let z = c.requires in
    left_less _ z.usable.0 _ _ c.keep_pass-more.ensures (c.loop-more.invariant.1.len ∙ z.marks_len.1) c.loop-more-test.true

pub loop-more-preserved : goal.loop-more-preserved
loop-more-preserved c =
    (c.loop-more.invariant.0, passing_more _ _ c.loop-more.invariant.1 c.keep_pass-more.ensures)

pub shape_of-kept : goal.shape_of-kept
shape_of-kept c = c.loop-more.invariant.1.len

pub returns : goal.returns
returns c = passing_end _ _ c.loop-more.invariant.1 c.loop-more-test.false
