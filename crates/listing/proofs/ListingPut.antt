-- The frames of marked configurations, put into an output.
use mathlib.Core.Path.{◌≡◌, refl, sym, ap, ◌∙◌}
use mathlib.Core.Bool.{Bool, true, false}
use mathlib.Core.List.{List, [], ◌∷◌, ◌++◌, map, map-append, append_assoc, append-nil}
use Prim.Native.Nat.{ℕ, ◌+◌, ◌*◌, ◌<◌, ◌≤◌}
use native.Mathlib.Numerals.{add-one}
use native.Mathlib.Omega.{arith}
use lib.ListN.{length, get_or, drop, length-append, drop_of_length-le}
use lib.Seq.{drop-cons}
use Rattle.program.specs.declared.sizes.Sizes.{Sizes}
use Rattle.program.specs.Writing.{text}
use Rattle.reach.specs.Marks.{front_when}
use Rattle.writer.specs.Parts.{RoomFor, Put}
use Rattle.writer.proofs.FramesPut.{long_append, long_one, put_none, put_both, same_long}
use Rattle.listing.specs.Listing.{frame_at, is_listed, listed_from, listing, line_size}

-- each frame is a line
pub frames_long : (kind : ℕ) (Z : Sizes) (is : List ℕ) → length (text (map (frame_at kind Z) is)) ≡ line_size * length is
unfolding text
frames_long kind Z [] = refl
frames_long kind Z (i ∷ is) =
    omega (arith, long_append (frame_at kind Z i ∷ []) (map (frame_at kind Z) is), long_one (frame_at kind Z i), frames_long kind Z is)

front : (t : Bool) (i : ℕ) (is : List ℕ) → front_when t i [] ++ is ≡ front_when t i is
front true i is = refl
front false i is = refl

-- a loop lists the configurations in turn: those below i were put, and those from i on are to come
pub record Listed (kind : ℕ) (Z : Sizes) (states marks o out : List ℕ) (at i : ℕ) : Type 0 where
  pub found : List ℕ
  pub whole : found ++ listed_from Z states (drop i marks) i ≡ listed_from Z states marks 0
  pub put : Put (map (frame_at kind Z) found) o out 0 at

pub none_listed : (kind : ℕ) (Z : Sizes) (states marks o : List ℕ) → Listed kind Z states marks o o 0 0
none_listed kind Z states marks o = record { found = []; whole = refl; put = put_none }

module _ {kind : ℕ} {Z : Sizes} {states marks o out : List ℕ} {at i : ℕ} (s : Listed kind Z states marks o out at i) where
  pub all_listed : length marks ≤ i → Put (listing kind Z states marks) o out 0 at
  unfolding listed_from
  all_listed h =
      let e : s.found ++ listed_from Z states (drop i marks) i ≡ s.found = rw (drop_of_length-le marks h) (append-nil s.found) in
      rw (sym e ∙ s.whole) at s.put

  module _ (h : i < length marks) where
    -- what is listed at i
    abbrev here : List ℕ
    here = front_when (is_listed Z states (get_or marks i 0) i) i []

    next : (s.found ++ here) ++ listed_from Z states (drop (i + 1) marks) (i + 1) ≡ listed_from Z states marks 0
    unfolding listed_from
    next = rw (append_assoc, front, add-one) (rw (drop-cons marks i 0 h, add-one) at s.whole)

    pub room_here : RoomFor (listing kind Z states marks) o 0 → RoomFor (map (frame_at kind Z) here) out at
    room_here r =
        let all : List ℕ = listed_from Z states marks 0 in
        let n = simp length-append at (ap length next) in
        omega (arith, n, s.put.past, same_long s.put, frames_long kind Z s.found, frames_long kind Z here, frames_long kind Z all)

    pub one_listed : {out' : List ℕ} {at' : ℕ} → Put (map (frame_at kind Z) here) out out' at at' → Listed kind Z states marks o out' at' (i + 1)
    one_listed w = record { found = s.found ++ here; whole = next; put = rw map-append (put_both s.put w) }
