-- A text is compared with the frames of old marks, line by line.
use mathlib.Core.Path.{◌≡◌, refl, ap, ◌∙◌}
use mathlib.Core.Logic.{◌≢◌}
use mathlib.Core.Bool.{Bool, true, false, ◌&&◌, not}
use mathlib.Core.List.{List, [], ◌∷◌, ◌++◌, map, append-nil}
use Prim.Native.Nat.{ℕ, ◌+◌, ◌-◌, ◌<◌, ◌≤◌}
use native.Mathlib.Numerals.{add-one}
use native.Mathlib.Omega.{arith}
use lib.Dec.{eqb}
use lib.ListN.{length, get_or, replicate, length-replicate, take, drop, length-append, length-take, length-drop, drop_of_length-le}
use lib.Seq.{drop-cons, drop-drop, sets, sets-eq, take_at}
use borrow.Author.Tests.{eq-eqb, ne_eqb}
use Rattle.base.specs.Flags.{count_set}
use Rattle.base.proofs.Bools.{both, never}
use Rattle.text.specs.Hex.{hex_line}
use Rattle.text.proofs.RoundTrip.{length_hex}
use Rattle.program.specs.Frames.{end_frame}
use Rattle.program.specs.Writing.{text}
use Rattle.reach.specs.Marks.{front_when}
use Rattle.listing.specs.Listing.{frame_at}
use Rattle.analysis.specs.Answers.{same}
use Rattle.analysis.proofs.AnswersByChecks.{same_equal}
use Rattle.saved.specs.Saved.{old_sizes, saved_kind, set_from, text_of}

-- ---- a text that begins with a line, or not

pub same_front : (h s t : List ℕ) → same (take (length h) s) h ≡ true → same s (h ++ t) ≡ same (drop (length h) s) t
unfolding same
same_front [] s t e = refl
same_front (x ∷ h) [] t e = never e refl
same_front (x ∷ h) (y ∷ s) t e =
    let w = both (eqb y x) (same (take (length h) s) h) e in
    rw w.0 (same_front h s t w.1)

pub same_other : (h s t : List ℕ) → same (take (length h) s) h ≡ false → same s (h ++ t) ≡ false
unfolding same
same_other [] s t e = never refl e
same_other (x ∷ h) [] t e = refl
same_other (x ∷ h) (y ∷ s) t e = go (eqb y x) (same_other h s t) e
  where
    go : (b : Bool) → (same (take (length h) s) h ≡ false → same s (h ++ t) ≡ false) → b && same (take (length h) s) h ≡ false → b && same s (h ++ t) ≡ false
    go true k e = k e
    go false k e = refl

-- ---- one line

-- a line that was put into a buffer of its own
pub line_put : (h : List ℕ) {put : List ℕ} {size : ℕ} → put ≡ sets (replicate 11 0) 0 h → size ≡ length h → length h ≤ 11 → take (size - 0) put ≡ h
line_put h {put} {size} e n short =
    rw (e ∙ sets-eq h (replicate 11 0) 0 (omega (arith, length-replicate {A = ℕ} 11 0))) (take_at h _ (size - 0) (omega arith))

-- the line of a frame has 11 bytes
pub frame_long : (i : ℕ) → length (hex_line (frame_at saved_kind old_sizes i)) ≡ 11
frame_long i = simp (length-append, length_hex)

-- where fewer bytes are left, it is not there
pub none_left : (s : List ℕ) (at i : ℕ) → length s - at < 11 → false ≡ same (take 11 (drop at s)) (hex_line (frame_at saved_kind old_sizes i))
none_left s at i h = go (same (take 11 (drop at s)) (hex_line (frame_at saved_kind old_sizes i))) refl
  where
    go : (t : Bool) → same (take 11 (drop at s)) (hex_line (frame_at saved_kind old_sizes i)) ≡ t → false ≡ t
    go true e = absurd (omega (arith, ap length (same_equal _ _ e), frame_long i, length-take 11 (drop at s), length-drop at s))
    go false e = refl

-- ---- the walk beside the marks

-- the lines of the frames from number i on, by the bytes from there on
abbrev lines_from : List ℕ → List ℕ → ℕ → List ℕ
lines_from marks bs i = text (map (frame_at saved_kind old_sizes) (set_from bs i) ++ end_frame (count_set marks) ∷ [])

-- what is left to compare from here gives the whole answer
pub record Walking (s marks : List ℕ) (at i : ℕ) : Type 0 where
  pub inside : at ≤ length s
  pub rest : same s (text_of marks) ≡ same (drop at s) (lines_from marks (drop i marks) i)

pub walk_start : (s marks : List ℕ) → Walking s marks 0 0
unfolding text_of
walk_start s marks = record { inside = omega arith; rest = refl }

module _ {s marks : List ℕ} {at i : ℕ} (w : Walking s marks at i) where
  pub walk_end : length marks ≤ i → same s (text_of marks) ≡ same (drop at s) (hex_line (end_frame (count_set marks)))
  unfolding set_from text
  walk_end h = w.rest ∙ rw (drop_of_length-le marks h, append-nil (hex_line (end_frame (count_set marks)))) refl

  module _ (h : i < length marks) where
    next : set_from (drop i marks) i ≡ front_when (not (eqb (get_or marks i 0) 0)) i (set_from (drop (i + 1) marks) (i + 1))
    unfolding set_from
    next = rw (drop-cons marks i 0 h, add-one)

    pub walk_past : get_or marks i 0 ≡ 0 → Walking s marks at (i + 1)
    walk_past e =
        let k : set_from (drop i marks) i ≡ set_from (drop (i + 1) marks) (i + 1) = next ∙ rw (eq-eqb (get_or marks i 0) 0 e) refl in
        record { inside = w.inside; rest = w.rest ∙ rw k refl }

    module _ (e : get_or marks i 0 ≢ 0) where
      abbrev line : List ℕ
      line = hex_line (frame_at saved_kind old_sizes i)

      abbrev after : List ℕ
      after = lines_from marks (drop (i + 1) marks) (i + 1)

      from_line : lines_from marks (drop i marks) i ≡ line ++ after
      unfolding text
      from_line = rw (next, ne_eqb (get_or marks i 0) 0 e) refl

      pub walk_stops : same (take 11 (drop at s)) (hex_line (frame_at saved_kind old_sizes i)) ≡ false → same s (text_of marks) ≡ false
      walk_stops b = w.rest ∙ ap (same (drop at s)) from_line ∙ same_other line (drop at s) after (rw (frame_long i) b)

      pub walk_on : same (take 11 (drop at s)) (hex_line (frame_at saved_kind old_sizes i)) ≡ true → Walking s marks (at + 11) (i + 1)
      walk_on b =
          let k = ap length (same_equal _ _ b) in
          record {
            inside = omega (arith, k, frame_long i, length-take 11 (drop at s), length-drop at s, w.inside);
            rest = w.rest ∙ ap (same (drop at s)) from_line ∙ same_front line (drop at s) after (rw (frame_long i) b) ∙ rw (frame_long i, drop-drop 11 at s) refl;
          }
