-- The program of accepted frames is written as these frames.
use mathlib.Core.Path.{◌≡◌, refl, sym, ap, ◌∙◌}
use mathlib.Core.Bool.{Bool, true, false, cond}
use mathlib.Core.Logic.{◌≢◌}
use mathlib.Core.Option.{some}
use mathlib.Core.List.{List, [], ◌∷◌, ◌++◌, map, append-nil, append_assoc, map-append}
use Prim.Native.Nat.{ℕ, zero, suc, ◌+◌, ◌-◌, ◌*◌, ◌/◌, ◌%◌, ◌≤◌, ◌<◌}
use native.Mathlib.Omega.{arith}
use native.Mathlib.Nat.{zero-add}
use lib.Dec.{ltb, eqb}
use borrow.Author.Tests.{eqb-true, ne_eqb}
use lib.ListN.{length, get_or, length-append, drop_of_length-le}
use lib.Seq.{append_snoc}
use Rattle.text.specs.Lines.{lines, Bytes, pad, max_numbers, line_of}
use Rattle.text.specs.declared.Line.{Line}
use Rattle.automaton.specs.Automaton.{Transition}
use Rattle.program.specs.Program.{Program}
use Rattle.program.specs.Chosen.{sizes_fit}
use Rattle.program.specs.Frames.{kind_order, row_size, size, num, kind, word, rest, packed, key_of, nodes_frame, edge_frame, transition_frame, action_numbers, row_frame, initial_frame, rejecting_frame, end_frame, edge_key, transition_key, row_key, initial_key, rejecting_key}
use Rattle.program.specs.WellFormed.{WellFormed, WellFormedRows}
use Rattle.program.specs.Writing.{nodes_frames, transition_frames, frames_with, text, written_with}
use Rattle.program.specs.Reading.{Progress, start, transition_in, row_in, more, accepted, refused, judge, program_after, after_as, after, pairs_of, with_transitions, sizes_decide, table_decides, finished, read_from, read_file, rows_from, rows_in}
use Rattle.rows.specs.Rows.{TableRow, table_refusal, table_transitions}
use Rattle.program.specs.Verdicts.{Accepted}
use Rattle.program.proofs.SectionsAscend.{Rising, rising_ascending, none_yet}
use Rattle.program.proofs.LinesJudged.{padded, bytes_small, either, byte_of, kind_ordered, by_kind, Met, met}
use Rattle.program.proofs.ProgressSound.{Begun, Sound, start_sound, after_sound, ended_begun, sound_accepted}
use Rattle.program.proofs.TableWellFormed.{TableOf, all_else_kept, table_well_formed}
use Rattle.program.proofs.FilesAsFrames.{read_frames, rows_of, Frames, going, read_text, rows_text, accepted_text}

-- ---- a frame, from the line that is kept of it

-- the first n of some numbers
abbrev first : ℕ → (ℕ → ℕ) → List ℕ
first zero g = []
first (suc n) g = g 0 ∷ first n (λ i. g (suc i))

-- the frame of a line whose kind has place k, where count are so many states
abbrev frame_as : ℕ → ℕ → Line → List ℕ
frame_as q k l = byte_of k ∷ first (size q k - 1) (λ i. num l (suc i))

spelled : (m : ℕ) (f : List ℕ) → length f ≤ m → f ≡ first (length f) (λ i. get_or (pad m f) i 0)
spelled zero [] h = refl
spelled zero (x ∷ f) h = absurd (omega arith)
spelled (suc m) [] h = refl
spelled (suc m) (x ∷ f) h = ap (λ (t : List ℕ). x ∷ t) (spelled m f (omega arith))

size_small : (q k : ℕ) → size q k ≤ 8
size_small q k = either 8 (eqb k 1) 4 _ (omega arith) (either 8 (eqb k 2) 3 _ (omega arith) (either 8 (eqb k 3) 5 _ (omega arith)
    (either 8 (eqb k 4) 4 _ (omega arith) (either 8 (eqb k 5) (row_size q) _ (either 8 (ltb 8 q) 8 7 (omega arith) (omega arith))
    (either 8 (eqb k 8) 3 2 (omega arith) (omega arith))))))

-- a frame without a fault is the one of its line
frame_is : (s : Progress) (f : List ℕ) → Met s (kind (line_of f)) (line_of f) → f ≡ frame_as s.program.automaton.states (kind (line_of f)) (line_of f)
frame_is s [] m = absurd (omega (arith, m.known))
frame_is s (x ∷ f) m =
    let q = s.program.automaton.states in
    let e : size q (kind_order x) - 1 ≡ length f = omega (arith, m.counted) in
    rw (e, ← ((kind_ordered x).byte m.known)) (ap (λ (t : List ℕ). x ∷ t) (spelled 7 f (omega (arith, m.counted, size_small q (kind_order x)))))

-- ---- one frame more

-- the frames after the header
abbrev sections : Program → List TableRow → List (List ℕ)
sections p rs = nodes_frames 0 p.nodes ++ (map edge_frame p.edges ++ (transition_frames p.automaton.states p.automaton.transitions rs
    ++ (map initial_frame p.automaton.initial ++ map rejecting_frame p.automaton.rejecting)))

nodes_more : (f : ℕ) (ns : List ℕ) (n : ℕ) → nodes_frames f (ns ++ n ∷ []) ≡ nodes_frames f ns ++ nodes_frame (f + length ns) n ∷ []
unfolding nodes_frames
nodes_more f [] n = let e : f ≡ f + 0 = omega arith in ap (λ (i : ℕ). nodes_frame i n ∷ []) e
nodes_more f (m ∷ ns) n =
    let e : f + 1 + length ns ≡ f + suc (length ns) = omega arith in
    rw (nodes_more (f + 1) ns n, e)

-- a transition comes where count is no row, and a row where count is no transition
transition_more : (q : ℕ) (ts : List Transition) (rs : List TableRow) (t : Transition) → rs ≡ [] → transition_frames q (ts ++ t ∷ []) rs ≡ transition_frames q ts rs ++ transition_frame t ∷ []
transition_more q ts rs t e = rw e (map-append transition_frame ts (t ∷ []))

row_more : (q : ℕ) (ts : List Transition) (rs : List TableRow) (x : TableRow) → ts ≡ [] → transition_frames q ts (rs ++ x ∷ []) ≡ transition_frames q ts rs ++ row_frame q x ∷ []
row_more q ts [] x e = rw e
row_more q ts (r ∷ rs) x e = map-append (row_frame q) (r ∷ rs) (x ∷ [])

module _ (s : Progress) (l : Line) (bytes : (i : ℕ) → num l i < 256) (b : Begun s) where
  -- how many states there are
  abbrev state_count : ℕ
  state_count = s.program.automaton.states

  -- the frame of a row is the line's
  row_framed : row_frame state_count (row_in state_count l) ≡ frame_as state_count 5 l
  row_framed = go (ltb 8 state_count) refl
    where
      four : (a b c d : ℕ) → a < 256 → b < 256 → c < 256 → d < 256 → action_numbers (packed a b c d) ≡ a ∷ b ∷ c ∷ d ∷ []
      four a b c d h i j k =
          let w : packed a b c d / 0x1000000 ≡ a = omega arith in
          let x : packed a b c d / 0x10000 % 256 ≡ b = omega arith in
          let y : packed a b c d / 0x100 % 256 ≡ c = omega arith in
          let z : packed a b c d % 256 ≡ d = omega arith in
          rw (w, x, y, z)

      go : (t : Bool) → ltb 8 state_count ≡ t → row_frame state_count (row_in state_count l) ≡ frame_as state_count 5 l
      go true e =
          let w : (num l 1 * 256 + num l 2) / 256 ≡ num l 1 = omega (arith, bytes 2) in
          let x : (num l 1 * 256 + num l 2) % 256 ≡ num l 2 = omega (arith, bytes 2) in
          rw (e, w, x) (ap (λ (t : List ℕ). 0x55 ∷ num l 1 ∷ num l 2 ∷ (t ++ num l 7 ∷ [])) (four (num l 3) (num l 4) (num l 5) (num l 6) (bytes 3) (bytes 4) (bytes 5) (bytes 6)))
      go false e =
          rw e (ap (λ (t : List ℕ). 0x55 ∷ num l 1 ∷ (t ++ num l 6 ∷ [])) (four (num l 2) (num l 3) (num l 4) (num l 5) (bytes 2) (bytes 3) (bytes 4) (bytes 5)))

  -- sections after the frame's own are empty
  empty : {A : Type 0} (key : A → ℕ) (xs : List A) (j k : ℕ) → ((x : A) → key_of j 0 0 ≤ key x) → k < j → s.last < key_of k (word l) (rest l) → Rising 0 (map key xs) s.last → xs ≡ []
  empty key xs j k h z m r = none_yet key 0 s.last xs (λ x. omega (arith, h x, bytes 1, bytes 2, bytes 3, bytes 4, bytes 5, bytes 6, bytes 7)) r

  -- the rows after a line of the kind at this place
  abbrev rows_then : ℕ → List TableRow
  rows_then k = more (eqb k 5) (row_in state_count l) s.rows

  abbrev OneMore : ℕ → Type 0
  OneMore k = Met s k l → sections (program_after s.program k l) (rows_then k)
      ≡ cond (eqb k 8) (sections s.program s.rows) (sections s.program s.rows ++ frame_as state_count k l ∷ [])

  one_more : (k : ℕ) → 1 < k → k ≤ 8 → OneMore k
  one_more = by_kind OneMore
      (λ m. rw (no_edges 2 m (omega arith), no_rows 2 m (omega arith), no_transitions 2 m (omega arith), no_initial 2 m (omega arith), no_rejecting 2 m (omega arith), nodes_more 0 s.program.nodes (num l 2))
      (simp (append-nil, zero-add, (m.nodes refl).0)))
      (λ m. rw (no_rows 3 m (omega arith), no_transitions 3 m (omega arith), no_initial 3 m (omega arith), no_rejecting 3 m (omega arith)) (simp (map-append, append-nil, append_assoc)))
      (λ m.
      rw (no_initial 4 m (omega arith), no_rejecting 4 m (omega arith), transition_more state_count s.program.automaton.transitions s.rows (transition_in l) (no_rows 4 m (omega arith)))
      (simp (append-nil, append_assoc)))
      (λ m.
      let none : s.program.automaton.transitions ≡ [] = drop_of_length-le s.program.automaton.transitions {i = 0} (omega (arith, (m.row refl).1)) in
      rw (no_initial 5 m (omega arith), no_rejecting 5 m (omega arith), row_more state_count s.program.automaton.transitions s.rows (row_in state_count l) none, row_framed)
      (simp (append-nil, append_assoc)))
      (λ m. rw (no_rejecting 6 m (omega arith)) (simp (map-append, append-nil, append_assoc)))
      (λ m. simp (map-append, append_assoc))
      (λ m. refl)
    where
      no_edges : (k : ℕ) → Met s k l → k < 3 → s.program.edges ≡ []
      no_edges k m z = empty edge_key _ 3 k (λ x. omega arith) z m.later b.edges.rise

      no_transitions : (k : ℕ) → Met s k l → k < 4 → s.program.automaton.transitions ≡ []
      no_transitions k m z = empty transition_key _ 4 k (λ x. omega arith) z m.later b.transitions.rise

      no_rows : (k : ℕ) → Met s k l → k < 5 → s.rows ≡ []
      no_rows k m z = empty (row_key state_count) _ 5 k (λ x. omega arith) z m.later b.rows.rise

      no_initial : (k : ℕ) → Met s k l → k < 6 → s.program.automaton.initial ≡ []
      no_initial k m z = empty initial_key _ 6 k (λ x. omega arith) z m.later b.initial.rise

      no_rejecting : (k : ℕ) → Met s k l → k < 7 → s.program.automaton.rejecting ≡ []
      no_rejecting k m z = empty rejecting_key _ 7 k (λ x. omega arith) z m.later b.rejecting.rise

  frames_after : (k : ℕ) (f : List ℕ) → 1 < k → k ≤ 8 → Met s k l → f ≡ frame_as state_count k l
      → frames_with (program_after s.program k l) (rows_then k) ≡ cond (eqb k 8) (frames_with s.program s.rows) (frames_with s.program s.rows ++ f ∷ [])
  unfolding frames_with
  frames_after k f h j m e = rw (e, ne_eqb k 1 (λ i. omega arith)) (go (eqb k 8) _ _ _ _ (rw (ne_eqb k 1 (λ i. omega arith)) at (one_more k h j m)))
    where
      go : (t : Bool) (x : List ℕ) (a b c : List (List ℕ)) → a ≡ cond t b c → x ∷ a ≡ cond t (x ∷ b) (x ∷ c)
      go true x a b c e = ap (λ (d : List (List ℕ)). x ∷ d) e
      go false x a b c e = ap (λ (d : List (List ℕ)). x ∷ d) e

-- ---- while reading

-- these frames were read
record Read (s : Progress) (done : List (List ℕ)) : Type 0 where
  count : length done ≡ s.frames
  rows : s.rows ≡ rows_of s.program.automaton.states done
  so_far : 0 < s.frames → s.ended ≡ false → frames_with s.program s.rows ≡ done
  whole : s.ended ≡ true → frames_with s.program s.rows ++ end_frame (length (frames_with s.program s.rows)) ∷ [] ≡ done

nothing_read : Read start []
unfolding rows_of
nothing_read =
    record {
      count = refl;
      rows = refl;
      so_far = λ h e. absurd (omega arith);
      whole = λ e. absurd (let z : ◌≡◌ {A = ℕ} 0 1 = cc in omega arith);
    }

-- one frame more is one row more, if it is one
rows_more : (q : ℕ) (fs : List (List ℕ)) (f : List ℕ) → rows_of q (fs ++ f ∷ []) ≡ more (eqb (kind (line_of f)) 5) (row_in q (line_of f)) (rows_of q fs)
unfolding rows_of
rows_more q [] f = by_kind_of (eqb (kind (line_of f)) 5)
  where
    by_kind_of : (t : Bool) → cond t (row_in q (line_of f) ∷ []) [] ≡ more t (row_in q (line_of f)) []
    by_kind_of true = refl
    by_kind_of false = refl
rows_more q (g ∷ fs) f = rw (rows_more q fs f) (through (eqb (kind (line_of g)) 5) (eqb (kind (line_of f)) 5))
  where
    through : (t u : Bool) → cond t (row_in q (line_of g) ∷ more u (row_in q (line_of f)) (rows_of q fs)) (more u (row_in q (line_of f)) (rows_of q fs))
        ≡ more u (row_in q (line_of f)) (cond t (row_in q (line_of g) ∷ rows_of q fs) (rows_of q fs))
    through true true = refl
    through true false = refl
    through false true = refl
    through false false = refl

module _ (s : Progress) (done : List (List ℕ)) (f : List ℕ) (l : Line) (bytes : (i : ℕ) → num l i < 256) (g : Sound s) (r : Read s done) (o : s.ended ≡ false) where
  abbrev states : ℕ
  states = s.program.automaton.states

  counted : length (done ++ f ∷ []) ≡ s.frames + 1
  counted = rw length-append (omega (arith, r.count))

  -- the frame is a row of this line, or none, by its kind
  abbrev RowBy : ℕ → Type 0
  RowBy k = (q : ℕ) → rows_of q (done ++ f ∷ []) ≡ more (eqb k 5) (row_in q l) (rows_of q done)

  rows_after : (k : ℕ) → RowBy k → more (eqb k 5) (row_in states l) s.rows ≡ rows_of states (done ++ f ∷ [])
  rows_after k t = rw r.rows (sym (t states))

  header_read : Met s 1 l → f ≡ frame_as s.program.automaton.states 1 l → RowBy 1 → Read (after_as s 1 l) (done ++ f ∷ [])
  unfolding after_as frames_with nodes_frames rows_of
  header_read m e t =
      let z = (m.header refl).0 in
      let d : done ≡ [] = drop_of_length-le done {i = 0} (omega (arith, r.count)) in
      record {
        count = counted;
        rows = rw (g.fresh z, d) (rw d at (sym (t (num l 2))));
        so_far = λ h n. rw (g.fresh z, d) (ap (λ (t : List ℕ). t ∷ []) (sym e));
        whole = λ n. absurd (let z : ◌≡◌ {A = ℕ} 0 1 = cc in omega arith);
      }

  later_read : (k : ℕ) → 1 < k → k ≤ 8 → Met s k l → f ≡ frame_as s.program.automaton.states k l → RowBy k → Read (after_as s k l) (done ++ f ∷ [])
  unfolding after_as
  later_read k h j m e t =
      let z = m.begun h in
      let w = frames_after s l bytes (g.begun z) k f h j m e in
      let q = r.so_far z o in
      record {
        count = counted;
        rows = rw (ne_eqb k 1 (λ i. omega arith)) (rows_after k t);
        so_far = λ a n. (rw n at w) ∙ ap (λ (t : List (List ℕ)). t ++ f ∷ []) q;
        whole = λ n.
            let i = eqb-true k 8 n in
            let x : length done / 256 ≡ num l 1 = omega (arith, m.end i, r.count, bytes 2) in
            let y : length done % 256 ≡ num l 2 = omega (arith, m.end i, r.count, bytes 2) in
            rw ((rw n at w) ∙ q, x, y, e, i);
      }

  by_kind_read : (k : ℕ) → k ≤ 8 → Met s k l → f ≡ frame_as s.program.automaton.states k l → RowBy k → Read (after_as s k l) (done ++ f ∷ [])
  by_kind_read zero j m e t = absurd (omega (arith, m.known))
  by_kind_read (suc zero) j m e t = header_read m e t
  by_kind_read (suc (suc k)) j m e t = later_read _ (omega arith) j m e t

after_read : (s : Progress) (done : List (List ℕ)) (f : List ℕ) → Bytes f → Sound s → Read s done → s.ended ≡ false → judge s (line_of f) ≡ 0
    → Read (after s (line_of f)) (done ++ f ∷ [])
unfolding judge after
after_read s done f b g r o j =
    let m = met s (kind (line_of f)) (line_of f) j in
    by_kind_read s done f (line_of f) (λ i. bytes_small max_numbers f i b) g r o (kind (line_of f)) (kind_ordered (num (line_of f) 0)).small m (frame_is s f m) (λ q. rows_more q done f)

-- ---- to the end

-- the program is well-formed, its rows too, and with these it is written as these frames; where count are rows, they are its table
pub record ReadAs (p : Program) (fs : List (List ℕ)) : Type 0 where
  pub rs : List TableRow
  pub rows_there : rows_of p.automaton.states fs ≡ rs
  pub well_formed : WellFormed p
  pub rows : WellFormedRows p rs
  pub frames : frames_with p rs ++ end_frame (length (frames_with p rs)) ∷ [] ≡ fs
  pub table : rs ≢ [] → TableOf p rs

-- where the sizes accept a program they fit, and it is the one that they were asked for
sizes_accept : (p : Program) → (sizes_decide p).verdict ≡ Accepted → (sizes_fit p ≡ true) × (sizes_decide p ≡ accepted p)
sizes_accept p h = go (sizes_fit p) refl h
  where
    go : (t : Bool) → sizes_fit p ≡ t → (cond t (accepted p) (refused 23 0)).verdict ≡ Accepted → (sizes_fit p ≡ true) × (cond t (accepted p) (refused 23 0) ≡ accepted p)
    go true e h = (e, refl)
    go false e h = absurd (let z : ◌≡◌ {A = ℕ} 0 1 = cc in omega arith)

-- every line is good
ends : (s : Progress) (done : List (List ℕ)) → Sound s → Read s done → s.ended ≡ true → (finished s.rows s.program).verdict ≡ Accepted
    → ReadAs (finished s.rows s.program).program done
ends s done g r e h = go s.rows refl h
  where
    b : Begun s
    b = ended_begun s g e

    rows_good : WellFormedRows s.program s.rows
    rows_good = record { rows_fit = b.rows.fit; rows_ascend = rising_ascending 0 _ s.last b.rows.rise; rows_limited = b.rows_limited }

    by_table : (x : TableRow) (rs : List TableRow) → s.rows ≡ x ∷ rs → (t : Bool) → eqb (table_refusal (x ∷ rs) (pairs_of s.program)) 0 ≡ t
        → (table_decides t (table_refusal (x ∷ rs) (pairs_of s.program)) (x ∷ rs) s.program).verdict ≡ Accepted
        → ReadAs (table_decides t (table_refusal (x ∷ rs) (pairs_of s.program)) (x ∷ rs) s.program).program done
    by_table x rs i false t h = absurd (let z : ◌≡◌ {A = ℕ} 0 1 = cc in omega arith)
    by_table x rs i true t h =
        let v = sizes_accept (with_transitions s.program (table_transitions (x ∷ rs) (pairs_of s.program))) h in
        let w = rw i at rows_good in
        rw v.1
        (record {
          rs = x ∷ rs;
          rows_there = sym r.rows ∙ i;
          well_formed = table_well_formed s.program (sound_accepted s g e v.0) (x ∷ rs) w.rows_fit;
          rows = record { rows_fit = w.rows_fit; rows_ascend = w.rows_ascend; rows_limited = w.rows_limited };
          frames = rw (all_else_kept s.program (table_transitions (x ∷ rs) (pairs_of s.program)) x rs) (rw i at (r.whole e));
          table = λ u. record { met = eqb-true _ 0 t; transitions = refl };
        })

    go : (rs : List TableRow) → s.rows ≡ rs → (finished rs s.program).verdict ≡ Accepted → ReadAs (finished rs s.program).program done
    go [] i h =
        let v = sizes_accept s.program h in
        rw v.1
        (record {
          rs = [];
          rows_there = sym r.rows ∙ i;
          well_formed = sound_accepted s g e v.0;
          rows = rw i at rows_good;
          frames = rw i at (r.whole e);
          table = λ n. absurd (n refl);
        })
    go (x ∷ rs) i h = by_table x rs i (eqb (table_refusal (x ∷ rs) (pairs_of s.program)) 0) refl h

from : (fs done : List (List ℕ)) (s : Progress) → Frames fs → Sound s → Read s done → (read_frames s fs).verdict ≡ Accepted → ReadAs (read_frames s fs).program (done ++ fs)
unfolding read_frames Frames
from [] done s b g r h = rw append-nil (go s.ended refl h)
  where
    go : (t : Bool) → s.ended ≡ t → (cond t (finished s.rows s.program) (refused 8 (s.frames + 1))).verdict ≡ Accepted
        → ReadAs (cond t (finished s.rows s.program) (refused 8 (s.frames + 1))).program done
    go true e h = ends s done g r e h
    go false e h = absurd (let z : ◌≡◌ {A = ℕ} 0 1 = cc in omega arith)
from (f ∷ fs) done s b g r h =
    let w = going s (judge s (line_of f)) (read_frames (after s (line_of f)) fs) h in
    rw (w.same, ← (append_snoc done f fs))
    (from fs (done ++ f ∷ []) (after s (line_of f)) b.1 (after_sound s (line_of f) (padded (some f)) g w.open_yet w.no_fault)
    (after_read s done f b.0 g r w.open_yet w.no_fault) w.rest_accepted)

pub frames_back : (fs : List (List ℕ)) → Frames fs → (read_frames start fs).verdict ≡ Accepted → ReadAs (read_frames start fs).program fs
frames_back fs b h = from fs [] start b start_sound nothing_read h

-- ---- an accepted file

module _ (file : List ℕ) where
  abbrev its_program : Program
  its_program = (read_file file).program

  pub record FileRead : Type 0 where
    pub well_formed : WellFormed its_program
    pub rows : WellFormedRows its_program (rows_in file)
    pub comes_back : written_with its_program (rows_in file) ≡ file
    pub table : rows_in file ≢ [] → TableOf its_program (rows_in file)

  pub accepted_file : (read_file file).verdict ≡ Accepted → FileRead
  unfolding read_file written_with
  accepted_file h =
      let w = accepted_text file start h in
      let e = ap (λ (f : List ℕ). read_from start (lines f)) w.1 ∙ read_text w.0 start w.2 in
      let q = its_program.automaton.states in
      let r : ReadAs (read_from start (lines file)).program w.0 = rw e (frames_back w.0 w.2 (rw e at h)) in
      let t : rows_in file ≡ r.rs = ap (λ (f : List ℕ). rows_from q (lines f)) w.1 ∙ rows_text q w.0 w.2 ∙ r.rows_there in
      record {
        well_formed = r.well_formed;
        rows = rw t r.rows;
        comes_back = rw t (ap text r.frames ∙ sym w.1);
        table = rw t r.table;
      }
