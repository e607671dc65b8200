-- The numbers of the frames of a well-formed program and rows fit a byte, and the rows of these frames are the rows.
use mathlib.Core.Path.{◌≡◌, refl}
use mathlib.Core.Bool.{Bool, true, false, cond, ◌&&◌}
use mathlib.Core.List.{List, [], ◌∷◌, ◌++◌, map, append-nil}
use Prim.Native.Nat.{ℕ, ◌+◌, ◌≤◌, ◌<◌}
use native.Mathlib.Omega.{arith}
use lib.Dec.{ltb, eqb}
use lib.ListN.{length, get_or}
use borrow.Author.Tests.{ltb-true}
use Rattle.text.specs.Lines.{Bytes, line_of}
use Rattle.automaton.specs.Automaton.{Transition}
use Rattle.rows.specs.Rows.{TableRow, row_fits}
use Rattle.program.specs.Program.{Edge, Program, within, placed, edge_fits, transition_fits}
use Rattle.program.specs.Frames.{kind, edge_frame, transition_frame, row_frame, initial_frame, rejecting_frame, end_frame}
use Rattle.program.specs.Reading.{row_in}
use Rattle.program.specs.WellFormed.{All, WellFormed, WellFormedRows}
use Rattle.program.specs.Writing.{nodes_frames, transition_frames, frames_with}
use Rattle.program.proofs.SectionsAscend.{all_at}
use Rattle.program.proofs.LinesJudged.{at_most}
use Rattle.base.proofs.Bools.{both}
use Rattle.automaton.proofs.LabelsFit.{label_small}
use Rattle.program.proofs.ProgramLimits.{Limits, transition_small, frames_most, well_formed_limits}
use Rattle.program.proofs.RowsFramed.{row_read, row_bytes}
use Rattle.program.proofs.FilesAsFrames.{Frames, rows_of}

bytes_first : (f : List ℕ) (fs : List (List ℕ)) → Bytes f → Frames fs → Frames (f ∷ fs)
unfolding Frames
bytes_first f fs a b = (a, b)

bytes_append : (fs gs : List (List ℕ)) → Frames fs → Frames gs → Frames (fs ++ gs)
unfolding Frames
bytes_append [] gs a b = b
bytes_append (f ∷ fs) gs a b = (a.0, bytes_append fs gs a.1 b)

bytes_map : {A : Type 0} (frame : A → List ℕ) (fits : A → Bool) → ((x : A) → fits x ≡ true → Bytes (frame x)) → (xs : List A) → All fits xs → Frames (map frame xs)
unfolding Frames All
bytes_map frame fits h [] a = tt
bytes_map frame fits h (x ∷ xs) a = (h x a.0, bytes_map frame fits h xs a.1)

bytes_nodes : (f : ℕ) (ns : List ℕ) → f + length ns ≤ 16 → All (within 2 64) ns → Frames (nodes_frames f ns)
unfolding Frames All nodes_frames
bytes_nodes f [] h a = tt
bytes_nodes f (n ∷ ns) h a = let z = at_most 2 64 n a.0 in (omega arith, bytes_nodes (f + 1) ns (omega arith) a.1)

-- ---- the rows of some frames

rows_append : (q : ℕ) (fs gs : List (List ℕ)) → rows_of q (fs ++ gs) ≡ rows_of q fs ++ rows_of q gs
unfolding rows_of
rows_append q [] gs = refl
rows_append q (f ∷ fs) gs = rw (rows_append q fs gs) (go (eqb (kind (line_of f)) 5))
  where
    go : (t : Bool) → cond t (row_in q (line_of f) ∷ (rows_of q fs ++ rows_of q gs)) (rows_of q fs ++ rows_of q gs) ≡ cond t (row_in q (line_of f) ∷ rows_of q fs) (rows_of q fs) ++ rows_of q gs
    go true = refl
    go false = refl

no_rows : {A : Type 0} (q : ℕ) (frame : A → List ℕ) → ((x : A) → eqb (kind (line_of (frame x))) 5 ≡ false) → (xs : List A) → rows_of q (map frame xs) ≡ []
unfolding rows_of
no_rows q frame h [] = refl
no_rows q frame h (x ∷ xs) = rw (h x, no_rows q frame h xs)

rows_nodes : (q f : ℕ) (ns : List ℕ) → rows_of q (nodes_frames f ns) ≡ []
unfolding rows_of nodes_frames
rows_nodes q f [] = refl
rows_nodes q f (n ∷ ns) = rows_nodes q (f + 1) ns

rows_rows : (q : ℕ) (rs : List TableRow) → rows_of q (map (row_frame q) rs) ≡ rs
unfolding rows_of
rows_rows q [] = refl
rows_rows q (r ∷ rs) = rw (row_read q r, rows_rows q rs)

rows_there : (q : ℕ) (ts : List Transition) (rs : List TableRow) → rows_of q (transition_frames q ts rs) ≡ rs
rows_there q ts [] = no_rows q transition_frame (λ x. refl) ts
rows_there q ts (r ∷ rs) = rows_rows q (r ∷ rs)

pub rows_framed : (p : Program) (rs : List TableRow) (n : ℕ) → rows_of p.automaton.states (frames_with p rs ++ end_frame n ∷ []) ≡ rs
unfolding rows_of frames_with
rows_framed p rs n =
    let q = p.automaton.states in
    let ts = p.automaton.transitions in
    simp (rows_append, rows_nodes, no_rows q edge_frame (λ x. refl), rows_there q ts rs, no_rows q initial_frame (λ x. refl), no_rows q rejecting_frame (λ x. refl), append-nil)

-- ---- for a well-formed program

module _ (p : Program) (w : WellFormed p) where
  limit : Limits p
  limit = well_formed_limits p w

  nodes_small : (f : ℕ) → f < p.routines → get_or p.nodes f 0 ≤ 64
  nodes_small f h = at_most 2 64 (get_or p.nodes f 0) (all_at (within 2 64) p.nodes f 0 w.nodes-fit (omega (arith, w.complete)))

  pub edge_bytes : (e : Edge) → edge_fits p e ≡ true → Bytes (edge_frame e)
  edge_bytes e f =
      let n = get_or p.nodes e.routine 0 in
      let a = both (ltb e.routine p.routines && placed n e.source e.target) _ f in
      let b = both (ltb e.routine p.routines) _ a.0 in
      let c = (both (ltb e.source n && ltb e.target n) _ b.1).0 in
      let d = both (ltb e.source n) (ltb e.target n) c in
      let r = ltb-true e.routine p.routines b.0 in
      omega (
        arith,
        limit,
        nodes_small e.routine r,
        ltb-true e.source n d.0,
        ltb-true e.target n d.1,
        label_small p.routines p.automaton.actions (omega (arith, limit)) (omega (arith, limit)) e.label a.1,
      )

  pub transition_bytes : (t : Transition) → transition_fits p t ≡ true → Bytes (transition_frame t)
  transition_bytes t f = omega (arith, transition_small p t limit f)

  pub state_bytes : (b q : ℕ) → b < 256 → ltb q p.automaton.states ≡ true → Bytes (b ∷ q ∷ [])
  state_bytes b q h f = omega (arith, limit, ltb-true q p.automaton.states f)

  module _ (rs : List TableRow) (v : WellFormedRows p rs) where
    transitions_bytes : Frames (transition_frames p.automaton.states p.automaton.transitions rs)
    transitions_bytes = go rs v.rows_fit
      where
        go : (rs : List TableRow) → All (row_fits p.automaton) rs → Frames (transition_frames p.automaton.states p.automaton.transitions rs)
        go [] a = bytes_map transition_frame (transition_fits p) transition_bytes p.automaton.transitions w.transitions_fit
        go (r ∷ rs) a = bytes_map (row_frame p.automaton.states) (row_fits p.automaton) (row_bytes p limit) (r ∷ rs) a

    sections_bytes : Frames (frames_with p rs)
    unfolding frames_with
    sections_bytes =
        let state : ℕ → Bool = λ q. ltb q p.automaton.states in
        let nodes = bytes_nodes 0 p.nodes (omega (arith, limit)) w.nodes-fit in
        let edges = bytes_map edge_frame (edge_fits p) edge_bytes p.edges w.edges_fit in
        let initial = bytes_map initial_frame state (λ q. state_bytes 0x49 q (omega arith)) p.automaton.initial w.initial_fit in
        let rejecting = bytes_map rejecting_frame state (λ q. state_bytes 0x46 q (omega arith)) p.automaton.rejecting w.rejecting_fit in
        bytes_first _ _ (omega (arith, limit)) (bytes_append _ _ nodes (bytes_append _ _ edges (bytes_append _ _ transitions_bytes (bytes_append _ _ initial rejecting))))

    pub all_bytes : Frames (frames_with p rs ++ end_frame (length (frames_with p rs)) ∷ [])
    unfolding Frames
    all_bytes =
        let n = frames_most p rs limit v.rows_limited in
        bytes_append (frames_with p rs) _ sections_bytes (omega arith)
