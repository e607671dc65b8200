-- The text of old marks: how long it is, and that it is what is put.
use mathlib.Core.Path.{◌≡◌, refl, ap, ◌∙◌}
use mathlib.Core.Bool.{Bool, true, false, ◌&&◌, not}
use mathlib.Core.List.{List, [], ◌∷◌, map}
use Prim.Native.Nat.{ℕ, ◌+◌, ◌*◌, ◌≤◌}
use native.Mathlib.Nat.{zero-add}
use native.Mathlib.Omega.{arith}
use lib.Dec.{eqb}
use lib.ListN.{length, replicate, get_or-replicate}
use lib.Seq.{sets-eq}
use Rattle.base.specs.Flags.{is_set, count_set}
use Rattle.automaton.specs.Sizes.{max_states}
use Rattle.program.specs.Program.{Program}
use Rattle.program.specs.Frames.{end_frame}
use Rattle.program.specs.Writing.{text}
use Rattle.reach.specs.Configurations.{state_of}
use Rattle.reach.proofs.Numbers.{state_small}
use Rattle.reach.proofs.ShapeKept.{marks-length}
use Rattle.reach.proofs.MarksShown.{count_small}
use Rattle.writer.specs.Parts.{RoomFor, Put}
use Rattle.std.specs.Prelude.{Ok}
use Rattle.writer.proofs.FramesPut.{put_both, long_append, long_one}
use Rattle.listing.specs.Listing.{frame_at, listed_from, listing}
use Rattle.listing.proofs.ListingPut.{frames_long}
use Rattle.saved.specs.Saved.{old_sizes, old_marks, saved_kind, set_from, text_of}
use Rattle.saved.specs.Answers.{Way, over, back, moved}
use Rattle.saved.specs.Parts.{Wrote}
use Rattle.saved.proofs.OldSizes.{old_usable, old_numbers}
use Rattle.saved.proofs.MarksListed.{length-set}
use Rattle.saved.proofs.MovesAnswered.{room_written}

-- ---- how long it is

-- 11 bytes for each mark, and 7
pub text_long : (marks : List ℕ) → length (text_of marks) ≡ 11 * count_set marks + 7
unfolding text_of
text_long marks =
    let fs : List (List ℕ) = map (frame_at saved_kind old_sizes) (set_from marks 0) in
    let end : List ℕ = end_frame (count_set marks) in
    omega (arith, long_append fs (end ∷ []), frames_long saved_kind old_sizes (set_from marks 0), length-set marks 0, long_one end)

pub old_long : (p : Program) → length (old_marks p) ≡ 16384
old_long p = marks-length old_sizes old_usable p ∙ old_numbers

pub moved_limited : (way : Way) (p : Program) → length (moved way p) ≤ 180231
moved_limited over p = omega (arith, text_long (old_marks p), count_small (old_marks p), old_long p)
moved_limited back p = omega (arith, old_long p)

-- ---- all marked configurations are listed where every state has a flag

flagged : (i : ℕ) → is_set (replicate max_states 1) (state_of old_sizes i) ≡ true
flagged i = rw (get_or-replicate {A = ℕ} max_states (state_of old_sizes i) 1 0 (omega (arith, state_small old_sizes old_usable i)))

and_true : (t : Bool) → t && true ≡ t
and_true true = refl
and_true false = refl

listed_set : (l : List ℕ) (i : ℕ) → listed_from old_sizes (replicate max_states 1) l i ≡ set_from l i
unfolding listed_from set_from
listed_set [] i = refl
listed_set (b ∷ bs) i = rw (flagged i, and_true (not (eqb b 0)), listed_set bs (i + 1))

pub listing_long : (marks : List ℕ) → length (text (listing saved_kind old_sizes (replicate max_states 1) marks)) ≡ 11 * count_set marks
listing_long marks =
    omega (arith, frames_long saved_kind old_sizes (listed_from old_sizes (replicate max_states 1) marks 0), ap length (listed_set marks 0), length-set marks 0)

pub listing_room : (marks o : List ℕ) → 11 * count_set marks + 7 ≤ length o → RoomFor (listing saved_kind old_sizes (replicate max_states 1) marks) o 0
listing_room marks o h = omega (arith, listing_long marks)

-- ---- what is put

module _ (marks o : List ℕ) where
  -- the frames and the end, one after the other
  pub frames_written : {a out : List ℕ} {at r c : ℕ} → length (text_of marks) ≤ length o → c ≡ count_set marks → Put (listing saved_kind old_sizes (replicate max_states 1) marks) o a 0 at
      → Put (end_frame c ∷ []) a out at r → Wrote (text_of marks) o out (Ok r)
  unfolding text_of
  frames_written h e x y =
      let w = put_both (rw (listed_set marks 0) at x) (rw e at y) in
      let t : List ℕ = text_of marks in
      room_written t o h (w.past ∙ zero-add _) (w.there ∙ sets-eq t o 0 (omega arith) ∙ rw zero-add)
