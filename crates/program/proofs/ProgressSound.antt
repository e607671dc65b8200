-- What holds of the progress after frames without a fault.
use mathlib.Core.Path.{◌≡◌, refl, ap, ◌∙◌}
use mathlib.Core.Bool.{Bool, true, false, cond}
use mathlib.Core.List.{List, [], ◌∷◌}
use Prim.Native.Nat.{ℕ, zero, suc, ◌+◌, ◌≤◌, ◌<◌}
use native.Mathlib.Omega.{arith}
use lib.Dec.{ltb, eqb}
use lib.ListN.{length, length-append, drop_of_length-le}
use borrow.Author.Tests.{eqb-true, ne_eqb}
use Rattle.text.specs.declared.Line.{Line}
use Rattle.automaton.specs.Automaton.{Transition}
use Rattle.program.specs.Sizes.{max_frames}
use Rattle.program.specs.Program.{Program, within, counts_fit, edge_fits, transition_fits}
use Rattle.program.specs.Chosen.{sizes_fit}
use Rattle.program.specs.Frames.{size, num, kind, word, rest, packed, key_of, edge_key, transition_key, row_key, initial_key, rejecting_key}
use Rattle.program.specs.WellFormed.{All, WellFormed}
use Rattle.program.specs.Reading.{Progress, start, edge_in, transition_in, row_in, more, judge, program_after, after_as, after}
use Rattle.program.specs.RoomParts.{Room, RoomForRow}
use Rattle.rows.specs.Rows.{TableRow, row_fits}
use Rattle.program.proofs.SectionsAscend.{rising_ascending, none_yet, Section, no_section, length_more, limited_more, all_more, section_more}
use Rattle.program.proofs.LinesJudged.{Padded, at_most, kind_ordered, by_kind, Met, met}
use Rattle.program.proofs.ProgramLimits.{Limits, limits, transition_small, frame_count}
use Rattle.program.proofs.RowsFramed.{row-key}

-- ---- after the header

-- with a row there is no transition, and the last frame is that row or comes after it
pub record Tabular (rows : List TableRow) (transitions : List Transition) (last : ℕ) : Type 0 where
  pub no_transition : 0 < length rows → transitions ≡ []
  pub behind : 0 < length rows → key_of 5 0 0 ≤ last

pub record Begun (s : Progress) : Type 0 where
  pub counts-fit : counts_fit s.program.routines s.program.automaton.states s.program.automaton.actions ≡ true
  pub nodes_few : length s.program.nodes ≤ s.program.routines
  pub nodes-fit : All (within 2 64) s.program.nodes
  pub complete : s.ended ≡ true → length s.program.nodes ≡ s.program.routines
  pub edges : Section (edge_fits s.program) edge_key s.program.edges s.last
  pub edges_limited : length s.program.edges ≤ 256
  pub transitions : Section (transition_fits s.program) transition_key s.program.automaton.transitions s.last
  pub transitions_limited : length s.program.automaton.transitions ≤ 512
  pub rows : Section (row_fits s.program.automaton) (row_key s.program.automaton.states) s.rows s.last
  pub rows_limited : length s.rows ≤ 256
  pub tabular : Tabular s.rows s.program.automaton.transitions s.last
  pub initial : Section (λ q. ltb q s.program.automaton.states) initial_key s.program.automaton.initial s.last
  pub rejecting : Section (λ q. ltb q s.program.automaton.states) rejecting_key s.program.automaton.rejecting s.last
  pub counted : s.frames ≡ frame_count s.program [] + length s.rows + cond s.ended 1 0

pub begun_limits : (s : Progress) → Begun s → Limits s.program
begun_limits s b =
    limits s.program b.counts-fit b.nodes_few b.edges_limited b.transitions_limited
    (rising_ascending 0 _ s.last b.initial.rise) b.initial.fit (rising_ascending 0 _ s.last b.rejecting.rise) b.rejecting.fit

header_begun : (l : Line) → counts_fit (num l 1) (num l 2) (num l 3) ≡ true → Begun (after_as start 1 l)
unfolding after_as All
header_begun l c =
    record {
      counts-fit = c;
      nodes_few = omega arith;
      nodes-fit = tt;
      complete = λ e. absurd (let z : ◌≡◌ {A = ℕ} 0 1 = cc in omega arith);
      edges = no_section _ _ _;
      edges_limited = omega arith;
      transitions = no_section _ _ _;
      transitions_limited = omega arith;
      rows = no_section _ _ _;
      rows_limited = omega arith;
      tabular = record { no_transition = λ h. refl; behind = λ h. absurd (omega arith) };
      initial = no_section _ _ _;
      rejecting = no_section _ _ _;
      counted = refl;
    }

-- one frame more is one element more in one section, one row more, or the end
one_more : (p : Program) (rows : List TableRow) (x : TableRow) (l : Line) (k : ℕ) → 1 < k → k ≤ 8
    → frame_count (program_after p k l) [] + length (more (eqb k 5) x rows) + cond (eqb k 8) 1 0 ≡ frame_count p [] + length rows + 1
one_more p rows x l =
    by_kind (λ k. frame_count (program_after p k l) [] + length (more (eqb k 5) x rows) + cond (eqb k 8) 1 0 ≡ frame_count p [] + length rows + 1)
    (simp length-append (omega arith)) (simp length-append (omega arith)) (simp length-append (omega arith)) (simp length-append (omega arith))
    (simp length-append (omega arith)) (simp length-append (omega arith)) (omega arith)

module _ (s : Progress) (k : ℕ) (l : Line) (pad : Padded l) (b : Begun s) (m : Met s k l) (h : 1 < k) (j : k ≤ 8) where
  abbrev states : ℕ
  states = s.program.automaton.states

  past : (i : ℕ) → size states k ≤ i → num l i ≡ 0
  past i z = pad i (omega (arith, m.counted))

  -- the three numbers that only a row has
  past_four : size states k ≤ 5 → rest l ≡ 0
  past_four z = rw (past 5 (omega arith), past 6 (omega arith), past 7 (omega arith))

  state_key : (r : ℕ) → k ≡ r → size states r ≡ 2 → key_of r (packed (num l 1) 0 0 0) 0 ≡ key_of k (word l) (rest l)
  state_key r i e =
      let z : size states k ≡ 2 = ap (size states) i ∙ e in
      rw (past 2 (omega arith), past 3 (omega arith), past 4 (omega arith), past_four (omega arith), i)

  -- there is no edge yet when a routine is added
  edges_on : (t : Bool) → eqb k 2 ≡ t
      → Section (edge_fits (record { routines = s.program.routines; nodes = more t (num l 2) s.program.nodes; edges = []; automaton = s.program.automaton }))
      edge_key (more (eqb k 3) (edge_in l) s.program.edges) (key_of k (word l) (rest l))
  edges_on true e =
      let i = eqb-true k 2 e in
      let w = m.nodes i in
      let n = at_most 2 64 (num l 2) w.2 in
      let z : size states k ≤ 5 = rw i (omega arith) in
      let u : s.last < key_of 3 0 0 = omega (arith, rw i at m.later, begun_limits s b, past 3 (rw i (omega arith)), past 4 (rw i (omega arith)), past_four z) in
      rw (i, none_yet edge_key 0 s.last s.program.edges (λ x. omega arith) b.edges.rise) (no_section _ _ _)
  edges_on false e =
      section_more (eqb k 3) (edge_in l) (edge_fits s.program) edge_key s.last (key_of k (word l) (rest l)) s.program.edges m.later
      (λ e. let i = eqb-true k 3 e in ((m.edge i).0, rw (past_four (rw i (omega arith)), i))) b.edges

  -- a transition comes before every row
  before_rows : k ≡ 4 → key_of k (word l) (rest l) < key_of 5 0 0
  before_rows i =
      let t = transition_small s.program (transition_in l) (begun_limits s b) (m.transition i).0 in
      omega (arith, i, past 4 (rw i (omega arith)), past_four (rw i (omega arith)), t)

  tabular_on : (t u : Bool) → eqb k 5 ≡ t → eqb k 4 ≡ u
      → Tabular (more t (row_in states l) s.rows) (more u (transition_in l) s.program.automaton.transitions) (key_of k (word l) (rest l))
  tabular_on true true e f = absurd (omega (arith, eqb-true k 5 e, eqb-true k 4 f))
  tabular_on true false e f =
      let i = eqb-true k 5 e in
      record {
        no_transition = λ h. drop_of_length-le s.program.automaton.transitions {i = 0} (omega (arith, (m.row i).1));
        behind = λ h. omega (arith, i);
      }
  tabular_on false true e f =
      let i = eqb-true k 4 f in
      let none : 0 < length s.rows → ⊥ = λ h. omega (arith, b.tabular.behind h, m.later, before_rows i) in
      record { no_transition = λ h. absurd (none h); behind = λ h. absurd (none h) }
  tabular_on false false e f =
      record { no_transition = b.tabular.no_transition; behind = λ h. omega (arith, b.tabular.behind h, m.later) }

  later_begun : s.ended ≡ false → Begun (after_as s k l)
  unfolding after_as
  later_begun o =
      let p = s.program in
      let a = s.program.automaton in
      let key = key_of k (word l) (rest l) in
      let state : ℕ → Bool = λ q. ltb q a.states in
      rw (ne_eqb k 1 (λ e. omega arith))
      (record {
        counts-fit = b.counts-fit;
        nodes_few = limited_more (eqb k 2) (num l 2) p.routines p.nodes b.nodes_few (λ e. omega (arith, m.nodes (eqb-true k 2 e)));
        nodes-fit = all_more (eqb k 2) (num l 2) (within 2 64) p.nodes b.nodes-fit (λ e. (m.nodes (eqb-true k 2 e)).2);
        complete = λ e. let i = eqb-true k 8 e in rw i (m.complete (omega arith));
        edges = edges_on (eqb k 2) refl;
        edges_limited = limited_more (eqb k 3) (edge_in l) 256 p.edges b.edges_limited (λ e. (m.edge (eqb-true k 3 e)).1);
        transitions = section_more (eqb k 4) _ (transition_fits p) transition_key s.last key a.transitions m.later
            (λ e. let i = eqb-true k 4 e in ((m.transition i).0, rw (past 4 (rw i (omega arith)), past_four (rw i (omega arith)), i))) b.transitions;
        transitions_limited = limited_more (eqb k 4) _ 512 a.transitions b.transitions_limited (λ e. (m.transition (eqb-true k 4 e)).1);
        rows = section_more (eqb k 5) (row_in states l) (row_fits a) (row_key states) s.last key s.rows m.later
            (λ e. let i = eqb-true k 5 e in ((m.row i).0, rw i (row-key states l (λ z. past 7 (rw i z))))) b.rows;
        rows_limited = limited_more (eqb k 5) (row_in states l) 256 s.rows b.rows_limited (λ e. (m.row (eqb-true k 5 e)).2);
        tabular = tabular_on (eqb k 5) (eqb k 4) refl refl;
        initial = section_more (eqb k 6) (num l 1) state initial_key s.last key a.initial m.later
            (λ e. let i = eqb-true k 6 e in (m.initial i, state_key 6 i refl)) b.initial;
        rejecting = section_more (eqb k 7) (num l 1) state rejecting_key s.last key a.rejecting m.later
            (λ e. let i = eqb-true k 7 e in (m.rejecting i, state_key 7 i refl)) b.rejecting;
        counted = omega (arith, one_more p s.rows (row_in states l) l k h j, rw o at b.counted);
      })

-- ---- before it or after it

-- nothing is read yet, or the header is behind
pub record Sound (s : Progress) : Type 0 where
  pub fresh : s.frames ≡ 0 → s ≡ start
  pub begun : 0 < s.frames → Begun s

pub start_sound : Sound start
start_sound = record { fresh = λ e. refl; begun = λ h. absurd (omega arith) }

by_kind_sound : (s : Progress) (k : ℕ) (l : Line) → Padded l → k ≤ 8 → Sound s → s.ended ≡ false → Met s k l → Begun (after_as s k l)
by_kind_sound s zero l pad j g o m = absurd (omega (arith, m.known))
by_kind_sound s (suc zero) l pad j g o m = let w = m.header refl in rw (g.fresh w.0) (header_begun l w.1)
by_kind_sound s (suc (suc k)) l pad j g o m = later_begun s _ l pad (g.begun (m.begun (omega arith))) m (omega arith) j o

after_begun : (s : Progress) (l : Line) → Padded l → Sound s → s.ended ≡ false → judge s l ≡ 0 → Begun (after s l)
unfolding judge after
after_begun s l pad g o j = by_kind_sound s (kind l) l pad (kind_ordered (num l 0)).small g o (met s (kind l) l j)

pub after_sound : (s : Progress) (l : Line) → Padded l → Sound s → s.ended ≡ false → judge s l ≡ 0 → Sound (after s l)
unfolding after after_as
after_sound s l pad g o j = record { fresh = λ e. absurd (omega arith); begun = λ h. after_begun s l pad g o j }

-- ---- what follows

pub room : (s : Progress) (l : Line) → Padded l → Sound s → s.ended ≡ false → judge s l ≡ 0 → Room s.program (kind l)
unfolding judge after after_as
room s l pad g o j =
    let m = met s (kind l) l j in
    let a = begun_limits (after s l) (after_begun s l pad g o j) in
    record {
      nodes = λ e. let w = m.nodes e in omega (arith, begun_limits s (g.begun (m.begun (omega arith))));
      edges = λ e. (m.edge e).1;
      automaton =
          record {
            transitions = λ e. (m.transition e).1;
            initial = λ e. omega (arith, simp (length_more, e) at a.initial);
            rejecting = λ e. omega (arith, simp (length_more, e) at a.rejecting);
          };
    }

pub room_for_row : (s : Progress) (l : Line) → judge s l ≡ 0 → RoomForRow s.rows (kind l)
unfolding judge
room_for_row s l j = λ e. ((met s (kind l) l j).row e).2

-- transitions or rows, and not both
one_kind : (rows : List TableRow) (transitions : List Transition) (last : ℕ) → Tabular rows transitions last → length rows ≤ 256
    → length transitions ≤ 512 → length transitions + length rows ≤ 512
one_kind [] ts last t h i = omega arith
one_kind (r ∷ rows) ts last t h i = rw (t.no_transition (omega arith)) (omega arith)

-- all frames, and the end frame
pub frames_few : (s : Progress) → Sound s → s.frames ≤ max_frames + 1
frames_few s g = go s.frames refl
  where
    last_one : (t : Bool) → cond t 1 0 ≤ 1
    last_one true = omega arith
    last_one false = omega arith

    go : (n : ℕ) → s.frames ≡ n → n ≤ max_frames + 1
    go zero e = omega arith
    go (suc n) e = let b = g.begun (omega arith) in omega (arith, b.counted, begun_limits s b, last_one s.ended, one_kind s.rows s.program.automaton.transitions s.last b.tabular b.rows_limited b.transitions_limited)

-- where the end frame is there, so is the header
pub ended_begun : (s : Progress) → Sound s → s.ended ≡ true → Begun s
ended_begun s g o = go s.frames refl
  where
    go : (n : ℕ) → s.frames ≡ n → Begun s
    go zero e = absurd (let z = g.fresh e in let y : ◌≡◌ {A = ℕ} 0 1 = cc in omega arith)
    go (suc n) e = g.begun (omega arith)

pub sound_accepted : (s : Progress) → Sound s → s.ended ≡ true → sizes_fit s.program ≡ true → WellFormed s.program
sound_accepted s g o z =
    let b = ended_begun s g o in
    record {
      counts-fit = b.counts-fit;
      complete = b.complete o;
      nodes-fit = b.nodes-fit;
      edges_fit = b.edges.fit;
      edges_ascend = rising_ascending 0 _ s.last b.edges.rise;
      edges_limited = b.edges_limited;
      transitions_fit = b.transitions.fit;
      transitions_ascend = rising_ascending 0 _ s.last b.transitions.rise;
      transitions_limited = b.transitions_limited;
      initial_fit = b.initial.fit;
      initial_ascend = rising_ascending 0 _ s.last b.initial.rise;
      rejecting_fit = b.rejecting.fit;
      rejecting_ascend = rising_ascending 0 _ s.last b.rejecting.rise;
      sized = z;
    }
