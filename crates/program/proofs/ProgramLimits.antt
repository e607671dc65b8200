-- The limits of a well-formed program, and the longest file.
use mathlib.Core.Path.{◌≡◌, refl, ap}
use mathlib.Core.Bool.{Bool, true, false, ◌&&◌}
use mathlib.Core.List.{List, [], ◌∷◌, ◌++◌, map, append_assoc}
use Prim.Native.Nat.{ℕ, suc, ◌+◌, ◌*◌, ◌≤◌, ◌<◌}
use native.Mathlib.Omega.{arith}
use native.Mathlib.Nat.{suc-mul}
use lib.Dec.{ltb}
use lib.ListN.{length, length-append, length-map}
use borrow.Author.Tests.{ltb-true}
use Rattle.text.specs.Hex.{hex_line}
use Rattle.text.proofs.RoundTrip.{length_hex}
use Rattle.automaton.specs.Sizes.{max_states, max_labels}
use Rattle.automaton.specs.Automaton.{Transition, event_fits}
use Rattle.automaton.proofs.LabelsFit.{event_small}
use Rattle.rows.specs.Rows.{max_rows, TableRow}
use Rattle.program.specs.Sizes.{max_frames}
use Rattle.program.specs.Program.{Program, within, counts_fit, transition_fits}
use Rattle.program.specs.Frames.{packed, key_of, nodes_frame, edge_frame, transition_frame, row_frame, initial_frame, rejecting_frame, initial_key, rejecting_key}
use Rattle.program.specs.WellFormed.{All, WellFormed}
use Rattle.tables.specs.Keys.{Ascending}
use Rattle.program.specs.Writing.{nodes_frames, transition_frames, frames_with, text, written_with}
use Rattle.program.proofs.SectionsAscend.{few}
use Rattle.program.proofs.LinesJudged.{at_most}
use Rattle.base.proofs.Bools.{both}

-- ---- the limits

pub record Limits (p : Program) : Type 0 where
  pub routines : p.routines ≤ 16
  pub states : p.automaton.states ≤ 16
  pub actions : p.automaton.actions ≤ 32
  pub nodes : length p.nodes ≤ 16
  pub edges : length p.edges ≤ 256
  pub transitions : length p.automaton.transitions ≤ 512
  pub initial : length p.automaton.initial ≤ 16
  pub rejecting : length p.automaton.rejecting ≤ 16

-- a list of states ascends, so there are at most as many as there are states
states_few : (r n : ℕ) (qs : List ℕ) → n ≤ 16 → Ascending 0 (map (λ q. key_of r (packed q 0 0 0) 0) qs) → All (λ q. ltb q n) qs → length qs ≤ 16
states_few r n qs h s a = omega (arith, few (λ q. key_of r (packed q 0 0 0) 0) (λ a b z. omega arith) n 0 qs s a)

pub limits : (p : Program) → counts_fit p.routines p.automaton.states p.automaton.actions ≡ true → length p.nodes ≤ p.routines
    → length p.edges ≤ 256 → length p.automaton.transitions ≤ 512
    → Ascending 0 (map initial_key p.automaton.initial) → All (λ q. ltb q p.automaton.states) p.automaton.initial
    → Ascending 0 (map rejecting_key p.automaton.rejecting) → All (λ q. ltb q p.automaton.states) p.automaton.rejecting → Limits p
limits p c n e t si ai sr ar =
    let r = p.routines in let q = p.automaton.states in let a = p.automaton.actions in
    let w = both (within 1 16 r && within 1 16 q) (within 1 32 a) c in
    let v = both (within 1 16 r) (within 1 16 q) w.0 in
    let x = at_most 1 16 r v.0 in
    let y = at_most 1 16 q v.1 in
    record {
      routines = x;
      states = y;
      actions = at_most 1 32 a w.1;
      nodes = omega arith;
      edges = e;
      transitions = t;
      initial = states_few 6 q p.automaton.initial y si ai;
      rejecting = states_few 7 q p.automaton.rejecting y sr ar;
    }

-- how many frames a program and rows are, without the end frame
abbrev pub transition_count : List Transition → List TableRow → ℕ
transition_count ts [] = length ts
transition_count ts (r ∷ rs) = length (r ∷ rs)

abbrev pub frame_count : Program → List TableRow → ℕ
frame_count p rs =
    1 + length p.nodes + length p.edges + transition_count p.automaton.transitions rs + length p.automaton.initial + length p.automaton.rejecting

count_nodes : (f : ℕ) (ns : List ℕ) → length (nodes_frames f ns) ≡ length ns
unfolding nodes_frames
count_nodes f [] = refl
count_nodes f (n ∷ ns) = ap suc (count_nodes (f + 1) ns)

pub length_frames : (p : Program) (rs : List TableRow) → length (frames_with p rs) ≡ frame_count p rs
unfolding frames_with
length_frames p [] = simp (length-append, length-map, count_nodes) (omega arith)
length_frames p (r ∷ rs) = simp (length-append, length-map, count_nodes) (omega arith)

pub frames_most : (p : Program) (rs : List TableRow) → Limits p → length rs ≤ max_rows → length (frames_with p rs) ≤ max_frames
frames_most p [] l h = omega (arith, length_frames p [], l)
frames_most p (r ∷ rs) l h = omega (arith, length_frames p (r ∷ rs), l)

pub well_formed_limits : (p : Program) → WellFormed p → Limits p
well_formed_limits p w =
    limits p w.counts-fit (omega (arith, w.complete)) w.edges_limited w.transitions_limited w.initial_ascend w.initial_fit w.rejecting_ascend w.rejecting_fit

-- ---- labels and states within the limits

-- what a transition that fits says
pub transition-fits : (p : Program) (t : Transition) → transition_fits p t ≡ true
    → (t.before < p.automaton.states) × (event_fits p.routines p.automaton.actions t.label ≡ true)
    × (t.after < p.automaton.states)
transition-fits p t f =
    let q = p.automaton.states in
    let e = event_fits p.routines p.automaton.actions t.label in
    let a = both (ltb t.before q && e) (ltb t.after q) f in
    let b = both (ltb t.before q) e a.0 in
    (ltb-true t.before q b.0, b.1, ltb-true t.after q a.1)

pub transition_small : (p : Program) (t : Transition) → Limits p → transition_fits p t ≡ true
    → (t.before < max_states) × (t.label < max_labels) × (t.after < max_states)
transition_small p t limit f =
    let x = transition-fits p t f in
    (omega (arith, limit), event_small p.routines p.automaton.actions (omega (arith, limit)) (omega (arith, limit)) t.label x.1, omega (arith, limit))

-- ---- the longest file

pub text_append : (fs gs : List (List ℕ)) → text (fs ++ gs) ≡ text fs ++ text gs
unfolding text
text_append [] gs = refl
text_append (f ∷ fs) gs = rw (text_append fs gs, append_assoc (hex_line f) (text fs) (text gs))

-- a line has two digits for each number, and 0A
length_line : (f : List ℕ) (fs : List (List ℕ)) → length (text (f ∷ fs)) ≡ 2 * length f + 1 + length (text fs)
unfolding text
length_line f fs = simp (length-append, length_hex)

-- frames that all have n numbers
length_section : {A : Type 0} (frame : A → List ℕ) (n : ℕ) → ((x : A) → length (frame x) ≡ n) → (xs : List A) → length (text (map frame xs)) ≡ length xs * (2 * n + 1)
length_section frame n h [] = unfold text in omega arith
length_section frame n h (x ∷ xs) = rw (length_line (frame x) (map frame xs), suc-mul (length xs) (2 * n + 1)) (omega (arith, h x, length_section frame n h xs))

length_nodes : (f : ℕ) (ns : List ℕ) → length (text (nodes_frames f ns)) ≡ length ns * 7
unfolding nodes_frames
length_nodes f [] = unfold text in refl
length_nodes f (n ∷ ns) = rw (length_line (nodes_frame f n) (nodes_frames (f + 1) ns)) (omega (arith, length_nodes (f + 1) ns))

nothing : length (text []) ≡ 0
unfolding text
nothing = refl

-- 512 transitions are 512 * 9 bytes, and 256 rows at most 256 * 17
transitions_short : (q : ℕ) (ts : List Transition) (rs : List TableRow) → length ts ≤ 512 → length rs ≤ max_rows → length (text (transition_frames q ts rs)) ≤ 4608
transitions_short q ts [] h k = rw (length_section transition_frame 4 (λ t. refl) ts) (omega arith)
transitions_short q ts (r ∷ rs) h k = go (ltb 8 q) refl
  where
    go : (t : Bool) → ltb 8 q ≡ t → length (text (map (row_frame q) (r ∷ rs))) ≤ 4608
    go true e = rw (length_section (row_frame q) 8 (λ x. rw e) (r ∷ rs)) (omega arith)
    go false e = rw (length_section (row_frame q) 7 (λ x. rw e) (r ∷ rs)) (omega arith)

-- 9 for the header, and 16 * 7 + 256 * 11 + 4608 + 16 * 5 + 16 * 5 for the sections
sections_short : (p : Program) → WellFormed p → (rs : List TableRow) → length rs ≤ max_rows → length (text (frames_with p rs)) ≤ 7705
unfolding frames_with
sections_short p w rs k =
    let limit = well_formed_limits p w in
    simp (
      text_append,
      length-append,
      length_line,
      length_nodes,
      length_section edge_frame 5 (λ e. refl),
      length_section initial_frame 2 (λ q. refl),
      length_section rejecting_frame 2 (λ q. refl),
    )
    (omega (arith, limit, transitions_short p.automaton.states p.automaton.transitions rs limit.transitions k))

-- and 7 for the end frame
pub written_short : (p : Program) → WellFormed p → (rs : List TableRow) → length rs ≤ max_rows → length (written_with p rs) ≤ 7712
unfolding written_with
written_short p w rs k = simp (text_append, length-append, length_line, nothing) (omega (arith, sections_short p w rs k))
