-- What a line without a fault meets, by the place of its kind.
use mathlib.Core.Path.{◌≡◌, refl, ◌∙◌}
use mathlib.Core.Bool.{Bool, true, false, cond, ◌&&◌, ◌||◌, not, or-false}
use mathlib.Core.Option.{Option, some, none}
use mathlib.Core.List.{List, [], ◌∷◌}
use Prim.Native.Nat.{ℕ, zero, suc, ◌+◌, ◌*◌, ◌≤◌, ◌<◌}
use native.Mathlib.Omega.{arith}
use lib.Dec.{ltb, leb, eqb}
use lib.ListN.{length, get_or}
use borrow.Author.Tests.{ltb-true, leb-true, leb-false, eqb-true, eqb-false, ltb-false, not-true, not-false, lt-ltb, ne_eqb}
use Rattle.base.proofs.Bools.{both}
use Rattle.text.specs.Lines.{Bytes, pad, max_numbers, line_from}
use Rattle.text.specs.declared.Line.{Line}
use Rattle.program.specs.Program.{within, counts_fit, edge_fits, transition_fits}
use Rattle.program.specs.Frames.{kind_order, size, num, word, rest, key_of}
use Rattle.program.specs.Reading.{Progress, lowest, due, in_place, mixed, ordered, ranged, full, miscounted, edge_in, row_in, judge_as}
use Rattle.rows.specs.Rows.{row_fits}

-- ---- lines as they are read

-- the numbers past the count are 0
abbrev pub Padded : Line → Type 0
Padded l = (i : ℕ) → l.count ≤ i → num l i ≡ 0

pad_past : (n : ℕ) (xs : List ℕ) (i : ℕ) → length xs ≤ i → get_or (pad n xs) i 0 ≡ 0
pad_past zero xs i h = refl
pad_past (suc n) [] zero h = refl
pad_past (suc n) [] (suc i) h = pad_past n [] i (omega arith)
pad_past (suc n) (x ∷ xs) zero h = absurd (omega arith)
pad_past (suc n) (x ∷ xs) (suc i) h = pad_past n xs i (omega arith)

pub padded : (m : Option (List ℕ)) → Padded (line_from m)
padded none = pad_past max_numbers []
padded (some xs) = pad_past max_numbers xs

-- the numbers of a frame of bytes are bytes
pub bytes_small : (m : ℕ) (f : List ℕ) (i : ℕ) → Bytes f → get_or (pad m f) i 0 < 256
bytes_small zero f i b = omega arith
bytes_small (suc m) [] zero b = omega arith
bytes_small (suc m) [] (suc i) b = bytes_small m [] i b
bytes_small (suc m) (x ∷ f) zero b = b.0
bytes_small (suc m) (x ∷ f) (suc i) b = bytes_small m f i b.1

-- ---- tests

pub at_most : (lo hi x : ℕ) → within lo hi x ≡ true → x ≤ hi
at_most lo hi x h = leb-true x hi (both (leb lo x) (leb x hi) h).1

pub either : (n : ℕ) (t : Bool) (a b : ℕ) → a ≤ n → b ≤ n → cond t a b ≤ n
either n true a b h i = h
either n false a b h i = i

pub positive : (k : ℕ) → (k ≡ 0 → ⊥) → 0 < k
positive zero h = absurd (h refl)
positive (suc k) h = omega arith

no_fault : (a b c d e f g : Bool) → lowest a b c d e f g ≡ 0 → (b ≡ false) × (c ≡ false) × (d ≡ false) × (e ≡ false) × (f ≡ false) × (g ≡ false)
no_fault true b c d e f g h = absurd (omega arith)
no_fault false true c d e f g h = absurd (omega arith)
no_fault false false true d e f g h = absurd (omega arith)
no_fault false false false true e f g h = absurd (omega arith)
no_fault false false false false true f g h = absurd (omega arith)
no_fault false false false false false true g h = absurd (omega arith)
no_fault false false false false false false true h = absurd (omega arith)
no_fault false false false false false false false h = (refl, refl, refl, refl, refl, refl)

-- ---- places in the table of kinds

-- the byte of the kind at a place
abbrev pub byte_of : ℕ → ℕ
byte_of k =
    cond (eqb k 1) 0x50 (cond (eqb k 2) 0x52 (cond (eqb k 3) 0x53 (cond (eqb k 4) 0x54 (cond (eqb k 5) 0x55
    (cond (eqb k 6) 0x49 (cond (eqb k 7) 0x46 0x45))))))

pub record KindOrdered (n k : ℕ) : Type 0 where
  pub small : k ≤ 8
  pub byte : 0 < k → n ≡ byte_of k

pub kind_ordered : (n : ℕ) → KindOrdered n (kind_order n)
kind_ordered n =
    pick 0x50 1 _ refl (omega arith) (pick 0x52 2 _ refl (omega arith) (pick 0x53 3 _ refl (omega arith) (pick 0x54 4 _ refl (omega arith)
    (pick 0x55 5 _ refl (omega arith) (pick 0x49 6 _ refl (omega arith) (pick 0x46 7 _ refl (omega arith) (pick 0x45 8 0 refl (omega arith) none)))))))
  where
    none : KindOrdered n 0
    none = record { small = omega arith; byte = λ h. absurd (omega arith) }

    pick : (b k rest : ℕ) → b ≡ byte_of k → k ≤ 8 → KindOrdered n rest → KindOrdered n (cond (eqb n b) k rest)
    pick b k rest e h r = go (eqb n b) refl
      where
        go : (t : Bool) → eqb n b ≡ t → KindOrdered n (cond t k rest)
        go true i = record { small = h; byte = λ z. eqb-true n b i ∙ e }
        go false i = r

-- what holds at each place but the header's holds at every such place
pub by_kind : (P : ℕ → Type 0) → P 2 → P 3 → P 4 → P 5 → P 6 → P 7 → P 8 → (k : ℕ) → 1 < k → k ≤ 8 → P k
by_kind P b c d e f g i zero h j = absurd (omega arith)
by_kind P b c d e f g i (suc zero) h j = absurd (omega arith)
by_kind P b c d e f g i (suc (suc zero)) h j = b
by_kind P b c d e f g i (suc (suc (suc zero))) h j = c
by_kind P b c d e f g i (suc (suc (suc (suc zero)))) h j = d
by_kind P b c d e f g i (suc (suc (suc (suc (suc zero))))) h j = e
by_kind P b c d e f g i (suc (suc (suc (suc (suc (suc zero)))))) h j = f
by_kind P b c d e f g i (suc (suc (suc (suc (suc (suc (suc zero))))))) h j = g
by_kind P b c d e f g i (suc (suc (suc (suc (suc (suc (suc (suc zero)))))))) h j = i
by_kind P b c d e f g i (suc (suc (suc (suc (suc (suc (suc (suc (suc n))))))))) h j = absurd (omega arith)

-- ---- a line without a fault

pub record Met (s : Progress) (k : ℕ) (l : Line) : Type 0 where
  pub known : 0 < k
  pub counted : l.count ≡ size s.program.automaton.states k
  pub later : s.last < key_of k (word l) (rest l)
  pub header : k ≡ 1 → (s.frames ≡ 0) × (counts_fit (num l 1) (num l 2) (num l 3) ≡ true)
  pub begun : 1 < k → 0 < s.frames
  pub nodes : k ≡ 2 → (num l 1 ≡ length s.program.nodes) × (num l 1 < s.program.routines) × (within 2 64 (num l 2) ≡ true)
  pub complete : 2 < k → length s.program.nodes ≡ s.program.routines
  pub edge : k ≡ 3 → (edge_fits s.program (edge_in l) ≡ true) × (length s.program.edges < 256)
  pub transition : k ≡ 4
      → (transition_fits s.program (record { before = num l 1; label = num l 2; after = num l 3 }) ≡ true)
      × (length s.program.automaton.transitions < 512)
  pub row : k ≡ 5 → (row_fits s.program.automaton (row_in s.program.automaton.states l) ≡ true) × (length s.program.automaton.transitions ≡ 0) × (length s.rows < 256)
  pub initial : k ≡ 6 → ltb (num l 1) s.program.automaton.states ≡ true
  pub rejecting : k ≡ 7 → ltb (num l 1) s.program.automaton.states ≡ true
  pub end : k ≡ 8 → num l 1 * 256 + num l 2 ≡ s.frames

begun-by : (a b c d e : Bool) → (a && b && c) || (d && b && e) ≡ true → b ≡ true
begun-by a true c d e h = refl
begun-by true false c true e h = h
begun-by true false c false e h = h
begun-by false false c true e h = h
begun-by false false c false e h = h

-- of the two ways to be due, the other is out of range
due_here : (routines done f : ℕ) → due routines done f ≡ true → f < routines → f ≡ done
due_here routines done f d h = go (eqb f done) refl d
  where
    go : (t : Bool) → eqb f done ≡ t → t || (leb routines done && ltb done f) ≡ true → f ≡ done
    go true e d = eqb-true f done e
    go false e d = let w = both (leb routines done) (ltb done f) d in absurd (omega (arith, leb-true routines done w.0, ltb-true done f w.1))

pub met : (s : Progress) (k : ℕ) (l : Line) → judge_as s k l ≡ 0 → Met s k l
unfolding judge_as
met s k l j =
    let p = s.program in
    let w = no_fault (eqb l.count 0) (eqb k 0) (not (eqb l.count (size p.automaton.states k)))
    (not (ordered s.last s.frames p.routines (length p.nodes) (length p.automaton.transitions) k l)) (not (ranged p k l))
    (full (length p.edges) (length p.automaton.transitions) (length s.rows) k) (miscounted s.frames k l) j in
    let v = both (ltb s.last (key_of k (word l) (rest l)) && in_place s.frames p.routines (length p.nodes) k l) (not (mixed (length p.automaton.transitions) k)) (not-false _ w.2) in
    let o = both (ltb s.last (key_of k (word l) (rest l))) (in_place s.frames p.routines (length p.nodes) k l) v.0 in
    let r = not-false (ranged p k l) w.3 in
    record {
      known = positive k (eqb-false k 0 w.0);
      counted = eqb-true l.count (size p.automaton.states k) (not-false _ w.1);
      later = ltb-true s.last (key_of k (word l) (rest l)) o.0;
      header = λ e. (eqb-true s.frames 0 (simp (e, or-false) at o.1), simp (e, or-false) at r);
      begun = λ h. ltb-true 0 s.frames (begun-by (eqb k 2) _ _ (ltb 2 k) _ (rw (ne_eqb k 1 (λ e. omega arith)) at o.1));
      nodes = λ e.
          let x : ltb (num l 1) p.routines && within 2 64 (num l 2) ≡ true = simp (e, or-false) at r in
          let y : ltb 0 s.frames && due p.routines (length p.nodes) (num l 1) ≡ true = simp (e, or-false) at o.1 in
          let z = ltb-true (num l 1) p.routines (both (ltb (num l 1) p.routines) _ x).0 in
          (due_here p.routines (length p.nodes) (num l 1) (both (ltb 0 s.frames) _ y).1 z, z, (both (ltb (num l 1) p.routines) _ x).1);
      complete = λ h. eqb-true _ _ (both (ltb 0 s.frames) _ (rw (ne_eqb k 1 (λ e. omega arith), ne_eqb k 2 (λ e. omega arith), lt-ltb 2 k h) at o.1)).1;
      edge = λ e. (simp (e, or-false) at r, leb-false 256 _ (simp (e, or-false) at w.4));
      transition = λ e. (simp (e, or-false) at r, leb-false 512 _ (simp (e, or-false) at w.4));
      row = λ e. (simp (e, or-false) at r, none_there (length p.automaton.transitions) (rw e at v.1), leb-false 256 _ (rw e at w.4));
      initial = λ e. simp (e, or-false) at r;
      rejecting = λ e. simp (e, or-false) at r;
      end = λ e. eqb-true _ _ (not-false _ (rw e at w.5));
    }
  where
    none_there : (n : ℕ) → not (ltb 0 n) ≡ true → n ≡ 0
    none_there n h = omega (arith, ltb-false 0 n (not-true (ltb 0 n) h))
