-- A file's bytes against its frames: the one is read as the other, both ways.
use mathlib.Core.Path.{◌≡◌, refl, sym, ap, ◌∙◌}
use mathlib.Core.Bool.{Bool, true, false, cond}
use mathlib.Core.List.{List, [], ◌∷◌, ◌++◌, append_assoc}
use Prim.Native.Nat.{ℕ, zero, suc, ◌+◌, ◌≤◌}
use native.Mathlib.Omega.{arith}
use lib.Dec.{ltb}
use lib.ListN.{length, length-append}
use borrow.Author.Tests.{ltb-false}
use Rattle.text.specs.Hex.{hex}
use Rattle.text.specs.Lines.{lines, numbers_of, Bytes, line_of}
use Rattle.text.proofs.RoundTrip.{numbers_hex, text_of}
use Rattle.text.proofs.LinesSplit.{after_line, lines_hex}
use Rattle.program.specs.Writing.{text}
use Rattle.program.specs.Reading.{Progress, Outcome, refused, decided, judge, after, finished, read_from, row_first, rows_from}
use Rattle.rows.specs.Rows.{TableRow}
use Rattle.program.specs.Verdicts.{Accepted}
use Rattle.program.proofs.ReadingTurns.{turn, has_numbers}

-- reading, on frames
unfoldable pub read_frames : Progress → List (List ℕ) → Outcome
read_frames s [] = cond s.ended (finished s.rows s.program) (refused 8 (s.frames + 1))
read_frames s (f ∷ fs) = decided s (judge s (line_of f)) (read_frames (after s (line_of f)) fs)

-- every number of every frame fits a byte
unfoldable pub Frames : List (List ℕ) → Type 0
Frames [] = Unit
Frames (f ∷ fs) = Bytes f × Frames fs

-- the text of frames is read as the frames
pub read_text : (fs : List (List ℕ)) (s : Progress) → Frames fs → read_from s (lines (text fs)) ≡ read_frames s fs
unfolding text read_frames read_from lines Frames
read_text [] s b = refl
read_text (f ∷ fs) s b =
    rw (append_assoc (hex f) (10 ∷ []) (text fs), lines_hex f (text fs), numbers_hex f [] b.0)
    (ap (decided s (judge s (line_of f))) (read_text fs (after s (line_of f)) b.1))

-- the rows of some frames, where there are so many states
unfoldable pub rows_of : ℕ → List (List ℕ) → List TableRow
rows_of q [] = []
rows_of q (f ∷ fs) = row_first q (line_of f) (rows_of q fs)

-- the rows of a text are those of its frames
pub rows_text : (q : ℕ) (fs : List (List ℕ)) → Frames fs → rows_from q (lines (text fs)) ≡ rows_of q fs
unfolding text rows_of rows_from lines Frames
rows_text q [] b = refl
rows_text q (f ∷ fs) b =
    rw (append_assoc (hex f) (10 ∷ []) (text fs), lines_hex f (text fs), numbers_hex f [] b.0)
    (ap (row_first q (line_of f)) (rows_text q fs b.1))

-- an accepted line is before the end and has no fault, and the rest is accepted
pub record Going (s : Progress) (n : ℕ) (rest : Outcome) : Type 0 where
  pub open_yet : s.ended ≡ false
  pub no_fault : n ≡ 0
  pub same : decided s n rest ≡ rest
  pub rest_accepted : rest.verdict ≡ Accepted

pub going : (s : Progress) (n : ℕ) (rest : Outcome) → (decided s n rest).verdict ≡ Accepted → Going s n rest
going s n rest h = go s.ended refl (ltb 0 n) refl h
  where
    go : (t : Bool) → s.ended ≡ t → (u : Bool) → ltb 0 n ≡ u → (cond t (refused 8 (s.frames + 1)) (cond u (refused n (s.frames + 1)) rest)).verdict ≡ Accepted → Going s n rest
    go true e u f h = absurd (let z : ◌≡◌ {A = ℕ} 0 1 = cc in omega arith)
    go false e true f h = absurd (let z : ◌≡◌ {A = ℕ} 0 1 = cc in omega arith)
    go false e false f h = record { open_yet = e; no_fault = omega (arith, ltb-false 0 n f); same = rw (e, f); rest_accepted = h }

-- an accepted file is the text of frames; n bounds its length
by_length : (n : ℕ) (file : List ℕ) (s : Progress) → length file ≤ n → (read_from s (lines file)).verdict ≡ Accepted → (fs : List (List ℕ)) × (file ≡ text fs) × Frames fs
unfolding text Frames
by_length zero [] s l h = ([], refl, tt)
by_length zero (b ∷ t) s l h = absurd (omega arith)
by_length (suc n) [] s l h = ([], refl, tt)
by_length (suc n) (b ∷ t) s l h =
    let g = going s _ _ (rw (turn s b t) at h) in
    let m = has_numbers s (numbers_of (b ∷ t)) g.no_fault in
    let w = text_of (b ∷ t) m.0 m.1 in
    let i = by_length n (after_line (b ∷ t)) _ (omega (arith, simp length-append at (ap length w.0))) g.rest_accepted in
    (m.0 ∷ i.0, w.0 ∙ ap (λ (u : List ℕ). hex m.0 ++ 10 ∷ u) i.1 ∙ sym (append_assoc (hex m.0) (10 ∷ []) (text i.0)), (w.1, i.2))

pub accepted_text : (file : List ℕ) (s : Progress) → (read_from s (lines file)).verdict ≡ Accepted → (fs : List (List ℕ)) × (file ≡ text fs) × Frames fs
accepted_text file s h = by_length (length file) file s (omega arith) h
