-- The full analysis (paper: working afresh), lowest number first. A configuration is marked, pending (paper: waiting)
-- or neither, a byte each; a summary (paper: a known pair) is a byte too; the iterations (paper: takings) are counted.
use Rattle.std.specs.Prelude.{ℕ, zero, suc, ◌+◌, ◌*◌, ◌≤◌, ◌≡◌, Bool, true, false, ◌&&◌, not, List, [], ◌∷◌, length, get_or, set, replicate, eqb}
use Rattle.std.proofs.Math.Option.{Option, none, some}
use Rattle.program.specs.declared.sizes.Sizes.{Sizes}
use Rattle.program.specs.Chosen.{sizes_of, numbers}
use Rattle.reach.specs.Sizes.{enough_iterations, summaries}
use Rattle.automaton.specs.Automaton.{moves}
use Rattle.automaton.specs.declared.Event.{Event}
use Rattle.automaton.specs.declared.Event.TheVariants.{Action, Call, Return}
use Rattle.program.specs.Program.{Program}
use Rattle.reach.specs.Configurations.{number, routine_of, node_of, root_of, state_of, none_set}
use Rattle.reach.specs.Runs.{Step, steps_of}

pub record Worklist : Type 0 where
  pub marks : List ℕ
  pub pending : List ℕ
  pub known : List ℕ
  pub iterations : ℕ

-- the lowest pending number, from i on
unfoldable pub lowest : List ℕ → ℕ → Option ℕ
lowest [] i = none
lowest (b ∷ bs) i = elim (eqb b 0) [ true ↦ lowest bs (i + 1) | false ↦ some i ]

-- what is newly marked is pending
unfoldable pub mark : ℕ → Worklist → Worklist
mark j s =
    elim (eqb (get_or s.marks j 0) 0) [
      | true ↦ record {
        marks = set s.marks j 1;
        pending = set s.pending j 1;
        known = s.known;
        iterations = s.iterations;
      }
      | false ↦ s
    ]

-- a marked one becomes pending again
unfoldable pub wake : ℕ → Worklist → Worklist
wake j s =
    elim (eqb (get_or s.marks j 0) 0) [
      | true ↦ s
      | false ↦ record {
        marks = s.marks;
        pending = set s.pending j 1;
        known = s.known;
        iterations = s.iterations;
      }
    ]

unfoldable pub mark_when : Bool → ℕ → Worklist → Worklist
mark_when true j s = mark j s
mark_when false j s = s

unfoldable pub calls : ℕ → Event → Bool
calls f (Action a) = false
calls f (Call g) = eqb g f
calls f (Return g) = false

module _ (Z : Sizes) where
  -- a byte for each configuration and for each summary, 0 or 1
  pub record Shape (s : Worklist) : Type 0 where
    pub marks-length : length s.marks ≡ numbers Z
    pub pending_length : length s.pending ≡ numbers Z
    pub known_length : length s.known ≡ summaries Z
    pub marks_bits : (i : ℕ) → get_or s.marks i 0 ≤ 1
    pub pending_bits : (i : ℕ) → get_or s.pending i 0 ≤ 1
    pub known_bits : (i : ℕ) → get_or s.known i 0 ≤ 1

  -- the place of the summary (r, q) of routine f
  unfoldable pub summary : ℕ → ℕ → ℕ → ℕ
  summary f r q = (f * Z.states + r) * Z.states + q

  abbrev pub is_known_in : Worklist → ℕ → ℕ → ℕ → Bool
  is_known_in s f r q = not (eqb (get_or s.known (summary f r q) 0) 0)

  -- what an event may lead to: every result that the automaton allows, k states from x on
  unfoldable pub on_event : ℕ → ℕ → Program → ℕ → ℕ → ℕ → ℕ → Event → Worklist → Worklist
  on_event zero x p f m r q e s = s
  on_event (suc k) x p f m r q e s =
      on_event k (suc x) p f m r q e (mark_when (moves p.automaton q e x) (number Z f m r x) s)

  unfoldable pub event_when : Bool → Program → ℕ → ℕ → ℕ → ℕ → Event → Worklist → Worklist
  event_when true p f m r q e s = on_event Z.states 0 p f m r q e s
  event_when false p f m r q e s = s

  -- a call of g that has given root y: its return from every known summary (y, x) of g, k states from x on; the summary
  -- ends before the return's move
  unfoldable pub on_returns : ℕ → ℕ → Program → ℕ → ℕ → ℕ → ℕ → ℕ → Worklist → Worklist
  on_returns zero x p f m r g y s = s
  on_returns (suc k) x p f m r g y s = on_returns k (suc x) p f m r g y (event_when (is_known_in s g y x) p f m r x (Return g) s)

  -- it gives root y, or not: the entry with that root, and what its known summaries give
  unfoldable pub root_when : Bool → Program → ℕ → ℕ → ℕ → ℕ → ℕ → Worklist → Worklist
  root_when true p f m r g y s = on_returns Z.states 0 p f m r g y (mark (number Z g 0 y y) s)
  root_when false p f m r g y s = s

  -- a call of g: every root that the call's move gives, k states from y on
  unfoldable pub on_a_call : ℕ → ℕ → Program → ℕ → ℕ → ℕ → ℕ → ℕ → Worklist → Worklist
  on_a_call zero y p f m r q g s = s
  on_a_call (suc k) y p f m r q g s =
      on_a_call k (suc y) p f m r q g (root_when (moves p.automaton q (Call g) y) p f m r g y s)

  -- what a step's label leads to, from (f, n, r, q) to node m
  unfoldable pub on_label : Program → ℕ → ℕ → ℕ → ℕ → Event → Worklist → Worklist
  on_label p f m r q (Action a) s = on_event Z.states 0 p f m r q (Action a) s
  on_label p f m r q (Call g) s = on_a_call Z.states 0 p f m r q g s
  on_label p f m r q (Return g) s = s

  unfoldable pub label_when : Bool → Program → ℕ → ℕ → ℕ → ℕ → Event → Worklist → Worklist
  label_when true p f m r q l s = on_label p f m r q l s
  label_when false p f m r q l s = s

  -- every step from (f, n)
  unfoldable pub on_steps : Program → List Step → ℕ → ℕ → ℕ → ℕ → Worklist → Worklist
  on_steps p [] f n r q s = s
  on_steps p (e ∷ es) f n r q s =
      on_steps p es f n r q (label_when (eqb e.routine f && eqb e.source n) p f e.target r q e.label s)

  -- the marked configurations at a node in state q become pending, k roots from x on
  unfoldable pub wake_roots : ℕ → ℕ → ℕ → ℕ → ℕ → Worklist → Worklist
  wake_roots zero x g n q s = s
  wake_roots (suc k) x g n q s = wake_roots k (suc x) g n q (wake (number Z g n x q) s)

  unfoldable pub wake_when : Bool → ℕ → ℕ → ℕ → Worklist → Worklist
  wake_when true g n q s = wake_roots Z.states 0 g n q s
  wake_when false g n q s = s

  -- the marked configurations at a node from which a call of f can give root r become pending, k states from x on
  unfoldable pub wake_states : ℕ → ℕ → Program → ℕ → ℕ → ℕ → ℕ → Worklist → Worklist
  wake_states zero x p f r g n s = s
  wake_states (suc k) x p f r g n s =
      wake_states k (suc x) p f r g n (wake_when (moves p.automaton x (Call f) r) g n x s)

  unfoldable pub caller_when : Bool → Program → ℕ → ℕ → ℕ → ℕ → Worklist → Worklist
  caller_when true p f r g n s = wake_states Z.states 0 p f r g n s
  caller_when false p f r g n s = s

  -- every step that calls f
  unfoldable pub wake_callers : Program → List Step → ℕ → ℕ → Worklist → Worklist
  wake_callers p [] f r s = s
  wake_callers p (e ∷ es) f r s = wake_callers p es f r (caller_when (calls f e.label) p f r e.routine e.source s)

  unfoldable pub learn : ℕ → ℕ → ℕ → Worklist → Worklist
  learn f r q s = record {
    marks = s.marks;
    pending = s.pending;
    known = set s.known (summary f r q) 1;
    iterations = s.iterations;
  }

  -- at an exit (f, 1, r, q) the summary (r, q) of f is known, and each marked configuration from which a call of f can
  -- give root r becomes pending; elsewhere every step is followed
  unfoldable pub take_from : Bool → Program → ℕ → ℕ → ℕ → ℕ → Worklist → Worklist
  take_from true p f n r q s = wake_callers p (steps_of p) f r (learn f r q s)
  take_from false p f n r q s = on_steps p (steps_of p) f n r q s

  -- one iteration: the configuration of number i is taken, and is pending no more
  unfoldable pub take_one : Program → ℕ → Worklist → Worklist
  take_one p i s =
      take_from (eqb (node_of Z i) 1) p (routine_of Z i) (node_of Z i) (root_of Z i) (state_of Z i)
      (record { marks = s.marks; pending = set s.pending i 0; known = s.known; iterations = s.iterations + 1 })

  -- while some are pending, the lowest is taken; k bounds the iterations
  unfoldable pub work : ℕ → Program → Option ℕ → Worklist → Worklist
  work zero p o s = s
  work (suc k) p none s = s
  work (suc k) p (some i) s = let t = take_one p i s in work k p (lowest t.pending 0) t

  -- main's entry in each initial state
  unfoldable pub opened : List ℕ → Worklist → Worklist
  opened [] s = s
  opened (q ∷ qs) s = opened qs (mark (number Z 0 0 q q) s)

  abbrev pub blank : Worklist
  blank = record { marks = none_set Z; pending = none_set Z; known = replicate (summaries Z) 0; iterations = 0 }

  -- the full analysis of a program, in these sizes
  unfoldable pub analysis_at : Program → Worklist
  analysis_at p = let s = opened p.automaton.initial blank in work (enough_iterations Z) p (lowest s.pending 0) s

-- the full analysis of a program, in its own sizes
abbrev pub analysis : Program → Worklist
analysis p = analysis_at (sizes_of p) p
