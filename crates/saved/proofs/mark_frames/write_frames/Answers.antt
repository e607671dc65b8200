-- `saved::mark_frames::write_frames` meets its contract.
use mathlib.Core.Path.{◌≡◌, refl, ap}
use Prim.Native.Nat.{◌≤◌}
use native.Mathlib.Omega.{arith}
use lib.ListN.{replicate}
use Rattle.text.specs.declared.Line.{Line}
use Rattle.automaton.specs.Sizes.{max_states}
use Rattle.program.specs.Frames.{end_frame}
use Rattle.reach.proofs.MarksShown.{count_small}
use Rattle.writer.specs.Parts.{Put}
use Rattle.writer.proofs.FramesPut.{put_one, same_long}
use Rattle.listing.specs.Listing.{listing}
use Rattle.saved.specs.Saved.{old_sizes, saved_kind, text_of}
use Rattle.saved.proofs.OldSizes.{old_usable, old_admitted, old_numbers}
use Rattle.saved.proofs.MovesAnswered.{short_refused}
use Rattle.saved.proofs.FramesWritten.{text_long, listing_long, listing_room, frames_written}
use Rattle.saved.proofs.mark_frames.write_frames.Goals as goal
use Rattle.saved.proofs.mark_frames.write_frames.Goals.{After-count_set-count, After-put_listing-at}

-- no more marks are set than there are
few : (c : After-count_set-count) → c.count_set-count.result ≤ 16384
few c =
    omega (arith, c.count_set-count.ensures, count_small c.args.marks.now, c.requires, old_numbers)

-- the frames are put in the old sizes
listed : (c : After-put_listing-at) → let z = c.args in
    Put (listing saved_kind old_sizes (replicate max_states 1) z.marks.now) z.output.now c.put_listing-at.new.out 0 c.put_listing-at.result
listed c = rw c.old_sizes.ensures at c.put_listing-at.ensures

pub overflow_mul-count : goal.overflow_mul-count
overflow_mul-count c = omega (arith, few c)

pub overflow_add-count : goal.overflow_add-count
overflow_add-count c = omega (arith, few c)

pub returns-then-output-count : goal.returns-then-output-count
returns-then-output-count c =
    let z = c.args in
    rw c.into.ensures (short_refused (text_of z.marks.now) z.output.now (omega (arith, c.if-output-count.true, text_long z.marks.now, c.count_set-count.ensures)))

pub put_listing-at-requires : goal.put_listing-at-requires
put_listing-at-requires c =
    rw c.old_sizes.ensures (old_usable, old_admitted, c.requires, refl, listing_room c.args.marks.now c.args.output.now (omega (arith, c.if-output-count.false, c.count_set-count.ensures)))

pub end_line-requires : goal.end_line-requires
end_line-requires c = omega (arith, few (goal.at.end_line-requires c).After-count_set-count)

pub put_line-requires : goal.put_line-requires
put_line-requires c =
    let n : c.end_line.result.count ≡ 3 = ap (λ (x : Line). x.count) c.end_line.ensures in
    let p = listed (goal.at.put_line-requires c).After-put_listing-at in
    (omega arith, omega (arith, p.past, same_long p, listing_long c.args.marks.now, c.if-output-count.false, c.count_set-count.ensures))

pub returns : goal.returns
returns c =
    let z = c.args in
    frames_written z.marks.now z.output.now (omega (arith, c.if-output-count.false, text_long z.marks.now, c.count_set-count.ensures)) c.count_set-count.ensures (listed (goal.at.returns c).After-put_listing-at)
    (put_one c.end_line.result (end_frame c.count_set-count.result) c.end_line.ensures (omega arith) (c.put_line.ensures.value, c.put_line.ensures.out_after))
