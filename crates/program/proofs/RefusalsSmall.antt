-- A refusal's number and line are small, and the number is not 0.
use mathlib.Core.Path.{◌≡◌, refl}
use mathlib.Core.Logic.{◌≢◌, ◌⊎◌, inl, inr}
use mathlib.Core.Bool.{Bool, true, false, cond, not}
use mathlib.Core.List.{List, [], ◌∷◌}
use Prim.Native.Nat.{ℕ, ◌+◌, ◌≤◌, ◌<◌}
use native.Mathlib.Omega.{arith}
use lib.Dec.{ltb, eqb}
use lib.ListN.{length}
use borrow.Author.Tests.{ltb-true, ltb-false, eqb-false}
use Rattle.text.specs.Lines.{numbers_of, line_from}
use Rattle.text.specs.declared.Line.{Line}
use Rattle.program.specs.Chosen.{sizes_fit}
use Rattle.program.specs.Frames.{size, kind}
use Rattle.rows.specs.Rows.{TableRow, table_refusal, table_transitions}
use Rattle.rows.proofs.TableRefused.{refusal_small, refusal_large}
use Rattle.program.specs.Program.{Program}
use Rattle.program.specs.Reading.{Progress, accepted, refused, pairs_of, with_transitions, sizes_decide, table_decides, finished, lowest, ordered, ranged, full, miscounted, judge_as, judge, after, read_from}
use Rattle.program.specs.Verdicts.{Verdict}
use Rattle.program.specs.Verdicts.{Accepted, Refused}
use Rattle.program.proofs.LinesJudged.{padded, either, positive}
use Rattle.program.proofs.ProgressSound.{Sound, after_sound, frames_few}

lowest_small : (a b c d e f g : Bool) → lowest a b c d e f g ≤ 7
lowest_small a b c d e f g =
    either 7 a 1 _ (omega arith) (either 7 b 2 _ (omega arith) (either 7 c 3 _ (omega arith) (either 7 d 4 _ (omega arith)
    (either 7 e 5 _ (omega arith) (either 7 f 6 _ (omega arith) (either 7 g 7 0 (omega arith) (omega arith)))))))

pub judge_small : (s : Progress) (l : Line) → judge s l ≤ 7
unfolding judge judge_as
judge_small s l =
    let p = s.program in
    lowest_small (eqb l.count 0) (eqb (kind l) 0) (not (eqb l.count (size p.automaton.states (kind l)))) (not (ordered s.last s.frames p.routines (length p.nodes) (length p.automaton.transitions) (kind l) l))
    (not (ranged p (kind l) l)) (full (length p.edges) (length p.automaton.transitions) (length s.rows) (kind l)) (miscounted s.frames (kind l) l)

-- what is said of a refusal
unfoldable pub Small : Verdict → Type 0
Small Accepted = Unit
Small (Refused n line) = (0 < n) × (n ≤ 23) × (line ≤ 819) × ((n ≤ 8) ⊎ (19 ≤ n)) × (n ≢ 21) × (n ≢ 22)

small_sizes : (p : Program) → Small (sizes_decide p).verdict
unfolding Small
small_sizes p = go (sizes_fit p)
  where
    go : (t : Bool) → Small (cond t (accepted p) (refused 23 0)).verdict
    go true = tt
    go false = (omega arith, omega arith, omega arith, inr (omega arith), λ e. omega arith, λ e. omega arith)

small_finish : (rs : List TableRow) (p : Program) → Small (finished rs p).verdict
unfolding Small
small_finish [] p = small_sizes p
small_finish (r ∷ rs) p = by_number (eqb n 0) refl
  where
    n : ℕ
    n = table_refusal (r ∷ rs) (pairs_of p)

    by_number : (t : Bool) → eqb n 0 ≡ t → Small (table_decides t n (r ∷ rs) p).verdict
    by_number true e = small_sizes (with_transitions p (table_transitions (r ∷ rs) (pairs_of p)))
    by_number false e =
        let h = eqb-false n 0 e in
        let small = refusal_small (r ∷ rs) (pairs_of p) in
        (positive n h, omega (arith, small), omega arith, inr (refusal_large (r ∷ rs) (pairs_of p) h), λ e. omega (arith, small), λ e. omega (arith, small))

pub small_refusals : (ls : List (List ℕ)) (s : Progress) → Sound s → Small (read_from s ls).verdict
unfolding read_from Small
small_refusals [] s g = go s.ended
  where
    go : (t : Bool) → Small (cond t (finished s.rows s.program) (refused 8 (s.frames + 1))).verdict
    go true = small_finish s.rows s.program
    go false = (omega arith, omega arith, omega (arith, frames_few s g), inl (omega arith), λ e. omega arith, λ e. omega arith)
small_refusals (l ∷ ls) s g =
    let x = line_from (numbers_of l) in
    go s.ended refl (judge s x) refl (λ o j. small_refusals ls (after s x) (after_sound s x (padded (numbers_of l)) g o j))
  where
    go : (t : Bool) → s.ended ≡ t → (n : ℕ) → judge s (line_from (numbers_of l)) ≡ n
        → (s.ended ≡ false → judge s (line_from (numbers_of l)) ≡ 0 → Small (read_from (after s (line_from (numbers_of l))) ls).verdict)
        → Small (cond t (refused 8 (s.frames + 1)) (cond (ltb 0 n) (refused n (s.frames + 1)) (read_from (after s (line_from (numbers_of l))) ls))).verdict
    go true e n f r = (omega arith, omega arith, omega (arith, frames_few s g), inl (omega arith), λ e. omega arith, λ e. omega arith)
    go false e n f r = by_fault (ltb 0 n) refl
      where
        by_fault : (t : Bool) → ltb 0 n ≡ t → Small (cond t (refused n (s.frames + 1)) (read_from (after s (line_from (numbers_of l))) ls)).verdict
        by_fault true h =
            let k = judge_small s (line_from (numbers_of l)) in
            (ltb-true 0 n h, omega arith, omega (arith, frames_few s g), inl (omega arith), λ e. omega arith, λ e. omega arith)
        by_fault false h = r e (omega (arith, ltb-false 0 n h))
