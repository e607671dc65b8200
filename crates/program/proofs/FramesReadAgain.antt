-- The frames of a well-formed program, and of its rows where it has any, are read as the program.
use mathlib.Core.Path.{◌≡◌, refl, ap, ◌∙◌}
use mathlib.Core.Logic.{◌≢◌}
use mathlib.Core.Bool.{Bool, true, false}
use mathlib.Core.List.{List, [], ◌∷◌, ◌++◌, map, append-nil, append_assoc}
use Prim.Native.Nat.{ℕ, ◌+◌, ◌*◌, ◌/◌, ◌%◌, ◌≤◌, ◌<◌}
use native.Mathlib.Omega.{arith}
use lib.Dec.{ltb, eqb}
use lib.ListN.{length, length-append}
use lib.Seq.{append_snoc}
use borrow.Author.Tests.{lt-ltb, lt-leb, eq-eqb}
use Rattle.text.specs.Lines.{line_of}
use Rattle.automaton.specs.Automaton.{Transition}
use Rattle.rows.specs.Rows.{TableRow, row_fits}
use Rattle.program.specs.Program.{Edge, Program, within, edge_fits, transition_fits}
use Rattle.program.specs.Frames.{packed, key_of, header_frame, nodes_frame, edge_frame, transition_frame, row_frame, initial_frame, rejecting_frame, end_frame, edge_key, transition_key, row_key, initial_key, rejecting_key}
use Rattle.program.specs.WellFormed.{All, WellFormed, WellFormedRows}
use Rattle.tables.specs.Keys.{Ascending}
use Rattle.program.specs.Writing.{nodes_frames, transition_frames, frames_with}
use Rattle.program.specs.Reading.{Progress, start, accepted, judge_as, judge, after_as, after, finished}
use Rattle.program.proofs.LinesJudged.{at_most}
use Rattle.program.proofs.ProgramLimits.{Limits, transition_count, frame_count, length_frames, well_formed_limits}
use Rattle.program.proofs.RowsFramed.{row_read, row_below}
use Rattle.program.proofs.TableWellFormed.{TableOf}
use Rattle.program.proofs.FramesFitBytes.{edge_bytes, transition_bytes, state_bytes}
use Rattle.program.proofs.FilesAsFrames.{read_frames}

-- the rows and the program so far
abbrev Known : Type 0
Known = List TableRow × Program

-- before the end, with n frames read
abbrev at : ℕ → ℕ → Known → Progress
at last n x = record { last = last; frames = n; ended = false; rows = x.0; program = x.1 }

-- reading these frames leads to n frames, these rows and this program, the last key below a bound
record Leads (s : Progress) (fs : List (List ℕ)) (n : ℕ) (x : Known) (top : ℕ) : Type 0 where
  last : ℕ
  low : last < top
  reads : (rest : List (List ℕ)) → read_frames s (fs ++ rest) ≡ read_frames (at last n x) rest

-- a frame without a fault first
first : {n top : ℕ} {p : Known} (s t : Progress) (f : List ℕ) (fs : List (List ℕ)) → s.ended ≡ false → judge s (line_of f) ≡ 0 → after s (line_of f) ≡ t
    → Leads t fs n p top → Leads s (f ∷ fs) n p top
unfolding read_frames
first s t f fs o j e w = record { last = w.last; low = w.low; reads = λ rest. rw (j, e, o) (w.reads rest) }

-- these frames and then those
followed : {n m top up : ℕ} {p q : Known} {s : Progress} (fs gs : List (List ℕ)) → Leads s fs n p top
    → ((last : ℕ) → last < top → Leads (at last n p) gs m q up) → Leads s (fs ++ gs) m q up
followed fs gs a k =
    let b = k a.last a.low in
    record { last = b.last; low = b.low; reads = λ rest. rw append_assoc (a.reads (gs ++ rest) ∙ b.reads rest) }

-- ---- a section

module _ {A : Type 0} (frame : A → List ℕ) (key : A → ℕ) (put : List A → Known) (fits : A → Bool) (base top most : ℕ)
    (from-base : (x : A) → base ≤ key x)
    (below_top : (x : A) → fits x ≡ true → key x < top)
    (clean : (last n : ℕ) (done : List A) (x : A) → 0 < n → last < key x → fits x ≡ true → length done < most → judge (at last n (put done)) (line_of (frame x)) ≡ 0)
    (comes : (last n : ℕ) (done : List A) (x : A) → after (at last n (put done)) (line_of (frame x)) ≡ at (key x) (n + 1) (put (done ++ x ∷ []))) where
  one_on : (x : A) (xs done : List A) (last n : ℕ) → 0 < n → last < key x → fits x ≡ true → length done < most
      → Leads (at (key x) (n + 1) (put (done ++ x ∷ []))) (map frame xs) (n + 1 + length xs) (put (done ++ x ∷ [] ++ xs)) top
      → Leads (at last n (put done)) (map frame (x ∷ xs)) (n + length (x ∷ xs)) (put (done ++ x ∷ xs)) top
  one_on x xs done last n h z f c w =
      let e : n + 1 + length xs ≡ n + length (x ∷ xs) = omega arith in
      first (at last n (put done)) _ (frame x) (map frame xs) refl (clean last n done x h z f c) (comes last n done x) (rw (append_snoc done x xs, e) at w)

  go_on : (xs done : List A) (last n : ℕ) → 0 < n → last < top → Ascending last (map key xs) → All fits xs → length done + length xs ≤ most
      → Leads (at last n (put done)) (map frame xs) (n + length xs) (put (done ++ xs)) top
  unfolding Ascending All
  go_on [] done last n h z s a c =
      let e : n + 0 ≡ n = omega arith in
      record { last = last; low = z; reads = λ rest. rw (append-nil, e) }
  go_on (x ∷ xs) done last n h z s a c =
      one_on x xs done last n h s.0 a.0 (omega arith)
      (go_on xs (done ++ x ∷ []) (key x) (n + 1) (omega arith) (below_top x a.0) s.1 a.1 (rw length-append (omega arith)))

  raised : (last : ℕ) (xs : List A) → last < base → Ascending 0 (map key xs) → Ascending last (map key xs)
  unfolding Ascending
  raised last [] h s = tt
  raised last (x ∷ xs) h s = (omega (arith, from-base x), s.1)

  section : (xs : List A) (last n : ℕ) → 0 < n → last < base → base ≤ top → Ascending 0 (map key xs) → All fits xs → length xs ≤ most
      → Leads (at last n (put [])) (map frame xs) (n + length xs) (put xs) top
  section xs last n h z y s a c = go_on xs [] last n h (omega arith) (raised last xs z s) a (omega arith)

-- ---- the whole program

-- the program with the sections so far
abbrev made : Program → List ℕ → List Edge → List Transition → List ℕ → List ℕ → Program
made p ns es ts is rs =
    record {
      routines = p.routines;
      nodes = ns;
      edges = es;
      automaton = record { states = p.automaton.states; actions = p.automaton.actions; transitions = ts; initial = is; rejecting = rs };
    }

module _ (p : Program) (w : WellFormed p) where
  limit : Limits p
  limit = well_formed_limits p w

  here : eqb (length p.nodes) p.routines ≡ true
  here = eq-eqb (length p.nodes) p.routines w.complete

  -- the routine frames run by their number
  node_clean : (last n : ℕ) (done : List ℕ) (x : ℕ) → 0 < n → last < key_of 2 (packed (length done) x 0 0) 0 → within 2 64 x ≡ true → length done < p.routines
      → judge (at last n ([], made p done [] [] [] [])) (line_of (nodes_frame (length done) x)) ≡ 0
  unfolding judge judge_as
  node_clean last n done x h z f c =
      rw (lt-ltb last (key_of 2 (packed (length done) x 0 0) 0) z, lt-ltb 0 n h, eq-eqb (length done) (length done) refl, lt-ltb (length done) p.routines c, f)

  node_on : (x : ℕ) (ns done : List ℕ) (last n : ℕ) → 0 < n → last < key_of 2 (packed (length done) 0 0 0) 0 → within 2 64 x ≡ true → length done < p.routines
      → Leads (at (key_of 2 (packed (length done) x 0 0) 0) (n + 1) ([], made p (done ++ x ∷ []) [] [] [] [])) (nodes_frames (length (done ++ x ∷ [])) ns) (n + 1 + length ns)
      ([], made p (done ++ x ∷ [] ++ ns) [] [] [] []) (key_of 3 0 0)
      → Leads (at last n ([], made p done [] [] [] [])) (nodes_frames (length done) (x ∷ ns)) (n + length (x ∷ ns)) ([], made p (done ++ x ∷ ns) [] [] [] []) (key_of 3 0 0)
  unfolding nodes_frames after after_as
  node_on x ns done last n h z f c r =
      let e : n + 1 + length ns ≡ n + length (x ∷ ns) = omega arith in
      first (at last n ([], made p done [] [] [] [])) _ (nodes_frame (length done) x) (nodes_frames (length done + 1) ns) refl (node_clean last n done x h (omega arith) f c)
      refl (rw (append_snoc done x ns, e, length-append done (x ∷ [])) at r)

  nodes_on : (ns done : List ℕ) (last n : ℕ) → 0 < n → last < key_of 2 (packed (length done) 0 0 0) 0 → All (within 2 64) ns → length done + length ns ≡ p.routines
      → Leads (at last n ([], made p done [] [] [] [])) (nodes_frames (length done) ns) (n + length ns) ([], made p (done ++ ns) [] [] [] []) (key_of 3 0 0)
  unfolding All nodes_frames
  nodes_on [] done last n h z a c =
      let e : n + 0 ≡ n = omega arith in
      record { last = last; low = omega (arith, limit); reads = λ rest. rw (append-nil, e) }
  nodes_on (x ∷ ns) done last n h z a c =
      node_on x ns done last n h z a.0 (omega arith)
      (nodes_on ns (done ++ x ∷ []) (key_of 2 (packed (length done) x 0 0) 0) (n + 1) (omega arith) (rw length-append (omega (arith, at_most 2 64 x a.0))) a.1 (rw length-append (omega arith)))

  -- the transitions or, in a file with rows, the rows; while these are read there is no transition
  abbrev unless_rows : List TableRow → List Transition
  unless_rows [] = p.automaton.transitions
  unless_rows (r ∷ rs) = []

  row_clean : (last n : ℕ) (done : List TableRow) (x : TableRow) → 0 < n → last < row_key p.automaton.states x → row_fits p.automaton x ≡ true → length done < 256
      → judge (at last n (done, made p p.nodes p.edges [] [] [])) (line_of (row_frame p.automaton.states x)) ≡ 0
  unfolding judge judge_as
  row_clean last n done x h z f c = go (ltb 8 q) refl
    where
      q : ℕ
      q = p.automaton.states

      go : (t : Bool) → ltb 8 q ≡ t → judge (at last n (done, made p p.nodes p.edges [] [] [])) (line_of (row_frame q x)) ≡ 0
      go true e = rw (lt-ltb last (row_key q x) z, lt-ltb 0 n h, here, row_read q x, f, lt-leb 256 (length done) c, e)
      go false e = rw (lt-ltb last (row_key q x) z, lt-ltb 0 n h, here, row_read q x, f, lt-leb 256 (length done) c, e)

  row_comes : (last n : ℕ) (done : List TableRow) (x : TableRow)
      → after (at last n (done, made p p.nodes p.edges [] [] [])) (line_of (row_frame p.automaton.states x))
      ≡ at (row_key p.automaton.states x) (n + 1) (done ++ x ∷ [], made p p.nodes p.edges [] [] [])
  unfolding after after_as
  row_comes last n done x = rw (row_read p.automaton.states x)

  transitions_read : (rs : List TableRow) → WellFormedRows p rs → (last n : ℕ) → 0 < n → last < key_of 4 0 0
      → Leads (at last n ([], made p p.nodes p.edges [] [] [])) (transition_frames p.automaton.states p.automaton.transitions rs)
      (n + transition_count p.automaton.transitions rs) (rs, made p p.nodes p.edges (unless_rows rs) [] []) (key_of 6 0 0)
  unfolding judge judge_as after after_as
  transitions_read [] v last n h z =
      let ns = p.nodes in let es = p.edges in let ts = p.automaton.transitions in
      section transition_frame transition_key (λ xs. ([], made p ns es xs [] [])) (transition_fits p) (key_of 4 0 0) (key_of 6 0 0) 512 (λ x. omega arith) (λ x f. omega (arith, transition_bytes p w x f))
      (λ last n done x h z f c. rw (lt-ltb last (transition_key x) z, lt-ltb 0 n h, here, f, lt-leb 512 (length done) c))
      (λ last n done x. refl) ts last n h z (omega arith) w.transitions_ascend w.transitions_fit w.transitions_limited
  transitions_read (r ∷ rs) v last n h z =
      let q = p.automaton.states in
      section (row_frame q) (row_key q) (λ xs. (xs, made p p.nodes p.edges [] [] [])) (row_fits p.automaton) (key_of 5 0 0) (key_of 6 0 0) 256 (λ x. omega arith) (row_below p limit)
      row_clean row_comes (r ∷ rs) last n h (omega arith) (omega arith) v.rows_ascend v.rows_fit v.rows_limited

  module _ (rs : List TableRow) (v : WellFormedRows p rs) (t : rs ≢ [] → TableOf p rs) where
    -- all that is known before the end
    abbrev known : Known
    known = (rs, made p p.nodes p.edges (unless_rows rs) p.automaton.initial p.automaton.rejecting)

    after_nodes : (last : ℕ) → last < key_of 3 0 0 → Leads (at last (1 + length p.nodes) ([], made p p.nodes [] [] [] []))
        (map edge_frame p.edges ++ (transition_frames p.automaton.states p.automaton.transitions rs ++ (map initial_frame p.automaton.initial ++ map rejecting_frame p.automaton.rejecting)))
        (frame_count p rs) known (key_of 8 0 0)
    unfolding judge judge_as after after_as
    after_nodes last z =
        let ns = p.nodes in let es = p.edges in let ts = unless_rows rs in let is = p.automaton.initial in
        let state : ℕ → Bool = λ q. ltb q p.automaton.states in
        followed (map edge_frame es) _
        (section edge_frame edge_key (λ xs. ([], made p ns xs [] [] [])) (edge_fits p) (key_of 3 0 0) (key_of 4 0 0) 256 (λ x. omega arith) (λ x f. omega (arith, edge_bytes p w x f))
        (λ last n done x h z f c. rw (lt-ltb last (edge_key x) z, lt-ltb 0 n h, here, f, lt-leb 256 (length done) c))
        (λ last n done x. refl) es last _ (omega arith) z (omega arith) w.edges_ascend w.edges_fit w.edges_limited)
        (λ last z. followed (transition_frames p.automaton.states p.automaton.transitions rs) _ (transitions_read rs v last _ (omega arith) z)
        (λ last z. followed (map initial_frame is) _
        (section initial_frame initial_key (λ xs. (rs, made p ns es ts xs [])) state (key_of 6 0 0) (key_of 7 0 0) 16 (λ x. omega arith) (λ x f. omega (arith, state_bytes p w 0x49 x (omega arith) f))
        (λ last n done x h z f c. rw (lt-ltb last (initial_key x) z, lt-ltb 0 n h, here, f))
        (λ last n done x. refl) is last _ (omega arith) z (omega arith) w.initial_ascend w.initial_fit (omega (arith, limit)))
        (λ last z.
        section rejecting_frame rejecting_key (λ xs. (rs, made p ns es ts is xs)) state (key_of 7 0 0) (key_of 8 0 0) 16 (λ x. omega arith) (λ x f. omega (arith, state_bytes p w 0x46 x (omega arith) f))
        (λ last n done x h z f c. rw (lt-ltb last (rejecting_key x) z, lt-ltb 0 n h, here, f))
        (λ last n done x. refl) p.automaton.rejecting last _ (omega arith) z (omega arith) w.rejecting_ascend w.rejecting_fit (omega (arith, limit)))))

    frames_read : Leads start (frames_with p rs) (frame_count p rs) known (key_of 8 0 0)
    unfolding frames_with judge judge_as after after_as
    frames_read =
        let r = p.routines in let q = p.automaton.states in let a = p.automaton.actions in
        first start (at (key_of 1 (packed r q a 0) 0) 1 ([], made p [] [] [] [] [])) (header_frame r q a) _ refl
        (rw (lt-ltb 0 (key_of 1 (packed r q a 0) 0) (omega arith), w.counts-fit)) refl
        (followed (nodes_frames 0 p.nodes) _ (nodes_on p.nodes [] _ 1 (omega arith) (omega (arith, limit)) w.nodes-fit (omega (arith, w.complete))) after_nodes)

    -- the table gives the program its transitions
    all_read : finished rs known.1 ≡ accepted p
    all_read = go rs t
      where
        go : (rs : List TableRow) → (rs ≢ [] → TableOf p rs) → finished rs (made p p.nodes p.edges (unless_rows rs) p.automaton.initial p.automaton.rejecting) ≡ accepted p
        go [] t = rw w.sized
        go (r ∷ rs) t =
            let x = t (λ e. let z = ap length e in omega arith) in
            rw (x.met, ← x.transitions, w.sized)

    end_read : (last n : ℕ) → 0 < n → last < key_of 8 0 0 → read_frames (at last n known) (end_frame n ∷ []) ≡ accepted p
    unfolding read_frames judge judge_as after after_as
    end_read last n h z =
        let e : n / 256 * 256 + n % 256 ≡ n = omega arith in
        rw (lt-ltb last (key_of 8 (packed (n / 256) (n % 256) 0 0) 0) (omega arith), lt-ltb 0 n h, here, eq-eqb _ n e) all_read

    pub again : read_frames start (frames_with p rs ++ end_frame (length (frames_with p rs)) ∷ []) ≡ accepted p
    again = rw (length_frames p rs) (frames_read.reads _ ∙ end_read frames_read.last _ (omega arith) frames_read.low)
