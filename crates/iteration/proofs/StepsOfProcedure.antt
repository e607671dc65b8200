-- What the steps of the code mean: they are the steps of the defined procedure.
use Prim.Native.Nat.{ℕ, zero, suc, ◌+◌, ◌≤◌, ◌<◌}
use mathlib.Core.Path.{◌≡◌, refl, sym, ap, ◌∙◌}
use mathlib.Core.Bool.{Bool, true, false, cond, not, ◌&&◌}
use mathlib.Core.List.{List, map}
use native.Mathlib.Omega.{arith}
use lib.Dec.{eqb}
use lib.ListN.{length, get_or, take, drop, drop_of_length-le}
use lib.Seq.{drop-cons}
use borrow.Author.Tests.{lt-ltb, lt-leb, le-leb, ltb-true, ltb-false, eqb-true}
use Rattle.base.specs.Bits.{bit}
use Rattle.base.specs.Flags.{is_set}
use Rattle.automaton.specs.Sizes.{first_call}
use Rattle.automaton.specs.Automaton.{moves, call_of, label_of, label_fits}
use Rattle.automaton.specs.NextStates.{set_at, Answers, EventOf}
use Rattle.automaton.specs.declared.Event.{Event}
use Rattle.automaton.specs.declared.Event.TheVariants.{Action, Call, Return}
use Rattle.automaton.proofs.MovesAsked.{asked}
use Rattle.program.specs.Sizes.{max_routines}
use Rattle.program.specs.Program.{Edge, Program, is_action, called_by}
use Rattle.program.specs.WellFormed.{WellFormed}
use Rattle.program.specs.Decoded.{edge_of}
use Rattle.program.proofs.ProgramLimits.{well_formed_limits}
use Rattle.program.proofs.ProgramRanged.{ranged}
use Rattle.reach.specs.Configurations.{number}
use Rattle.reach.specs.Runs.{Step, event_of, step_of}
use Rattle.reach.proofs.Labels.{call_label, action_label, label_event}
use Rattle.reach.specs.Worklist.{Worklist, mark, mark_when, summary, is_known_in}
use Rattle.reach.specs.Worklist.{on_event, event_when, on_returns, root_when, on_a_call, on_label, label_when, on_steps}
use Rattle.reach.specs.Worklist.{wake_roots, calls, wake_when, wake_states, caller_when, wake_callers}
use Rattle.reach.proofs.Numbers.{number_state, number_root, summary_fits}
use Rattle.reach.proofs.ShapeKept.{mark_by}
use Rattle.words.specs.Words.{flags_of}
use Rattle.words.proofs.FlagsOfPart.{take_at}
use Rattle.marking.specs.Parts.{each, mark_state, wake_at}
use Rattle.callers.specs.Parts.{state_step, caller_step}
use Rattle.successors.specs.Parts.{move_step, summary_step, entry_step, root_step, label_step, edge_step}
use Rattle.program.specs.declared.sizes.Sizes.{Sizes}
use Rattle.reach.specs.Sizes.{summaries}
use Rattle.reach.specs.Ranged.{Ranged}

-- the steps of these keys
abbrev steps_in : List ℕ → List Step
steps_in keys = map step_of (map edge_of keys)

-- ---- marking leaves the summaries alone

known_mark : (j : ℕ) (s : Worklist) → (mark j s).known ≡ s.known
known_mark j s = mark_by (λ t. t.known ≡ s.known) j s (λ e. refl) (λ e. refl)

known_when : (b : Bool) (j : ℕ) (s : Worklist) → (mark_when b j s).known ≡ s.known
unfolding mark_when
known_when true j s = known_mark j s
known_when false j s = refl

-- the label of an edge that fits is that of an action or calls one of the routines
module _ (p : Program) (w : WellFormed p) (label : ℕ) (fits : label_fits p.routines p.automaton.actions label ≡ true) where
  event-fits : EventOf p.automaton p.routines (event_of label)
  event-fits = label_event p.automaton p.routines (ranged p w).actions label fits

  action_fits : label < first_call → label < p.automaton.actions
  action_fits h = rw (action_label label (lt-ltb label first_call h)) at event-fits

  call_fits : first_call ≤ label → called_by label < p.routines
  call_fits h = rw (call_label label (le-leb first_call label h)) at event-fits

module _ (Z : Sizes) where
  known_event : (k x : ℕ) (p : Program) (f m r q : ℕ) (e : Event) (s : Worklist) → (on_event Z k x p f m r q e s).known ≡ s.known
  unfolding on_event
  known_event zero x p f m r q e s = refl
  known_event (suc k) x p f m r q e s = known_event k (suc x) p f m r q e _ ∙ known_when (moves p.automaton q e x) (number Z f m r x) s

  known_event_when : (b : Bool) (p : Program) (f m r q : ℕ) (e : Event) (s : Worklist) → (event_when Z b p f m r q e s).known ≡ s.known
  unfolding event_when
  known_event_when true p f m r q e s = known_event Z.states 0 p f m r q e s
  known_event_when false p f m r q e s = refl

  known_returns : (k x : ℕ) (p : Program) (f m r g y : ℕ) (s : Worklist) → (on_returns Z k x p f m r g y s).known ≡ s.known
  unfolding on_returns
  known_returns zero x p f m r g y s = refl
  known_returns (suc k) x p f m r g y s = known_returns k (suc x) p f m r g y _ ∙ known_event_when (is_known_in Z s g y x) p f m r x (Return g) s

  known_root_when : (b : Bool) (p : Program) (f m r g y : ℕ) (s : Worklist) → (root_when Z b p f m r g y s).known ≡ s.known
  unfolding root_when
  known_root_when true p f m r g y s = known_returns Z.states 0 p f m r g y (mark (number Z g 0 y y) s) ∙ known_mark (number Z g 0 y y) s
  known_root_when false p f m r g y s = refl

  known_call : (k y : ℕ) (p : Program) (f m r q g : ℕ) (s : Worklist) → (on_a_call Z k y p f m r q g s).known ≡ s.known
  unfolding on_a_call
  known_call zero y p f m r q g s = refl
  known_call (suc k) y p f m r q g s = known_call k (suc y) p f m r q g _ ∙ known_root_when (moves p.automaton q (Call g) y) p f m r g y s

  known_label : (p : Program) (f m r q : ℕ) (l : Event) (s : Worklist) → (on_label Z p f m r q l s).known ≡ s.known
  unfolding on_label
  known_label p f m r q (Action a) s = known_event Z.states 0 p f m r q (Action a) s
  known_label p f m r q (Call g) s = known_call Z.states 0 p f m r q g s
  known_label p f m r q (Return g) s = refl

  known_label_when : (b : Bool) (p : Program) (f m r q : ℕ) (l : Event) (s : Worklist) → (label_when Z b p f m r q l s).known ≡ s.known
  unfolding label_when
  known_label_when true p f m r q l s = known_label p f m r q l s
  known_label_when false p f m r q l s = refl

  -- the flag of a summary is one of the first
  summary_known : (known : List ℕ) (g y x : ℕ) → g < Z.routines → y < Z.states → x < Z.states
      → is_set (flags_of known) (summary Z g y x) ≡ is_set (take (summaries Z) (flags_of known)) (summary Z g y x)
  summary_known known g y x hg hy hx =
      ap (λ (n : ℕ). not (eqb n 0)) (sym (take_at (summaries Z) (flags_of known) (summary Z g y x) (summary_fits Z g y x hg hy hx)))

  -- ---- one edge

  module _ (p : Program) (next : List ℕ) (w : WellFormed p) (ans : Answers p.automaton p.routines next) where
    -- what is asked of the table are the moves of the program's events
    answer : (q : ℕ) (e : Event) (x : ℕ) → EventOf p.automaton p.routines e → bit x (set_at next q (label_of e)) ≡ moves p.automaton q e x
    answer q e x he = asked p.automaton p.routines (ranged p w) ans q e x he

    module _ (f m r : ℕ) where
      event_is : (q : ℕ) (e : Event) → EventOf p.automaton p.routines e → (k x : ℕ) (s : Worklist)
          → each (mark_state (set_at next q (label_of e)) (number Z f m r 0)) k x s ≡ on_event Z k x p f m r q e s
      unfolding each on_event
      event_is q e he zero x s = refl
      event_is q e he (suc k) x s = rw (answer q e x he, number_state Z f m r x) (event_is q e he k (suc x) _)

      event_when_is : (b : Bool) (q : ℕ) (e : Event) → EventOf p.automaton p.routines e → (s : Worklist)
          → cond b (move_step Z.states next (number Z f m r 0) q (label_of e) s) s ≡ event_when Z b p f m r q e s
      unfolding event_when
      event_when_is true q e he s = event_is q e he Z.states 0 s
      event_when_is false q e he s = refl

      module _ (known : List ℕ) (g : ℕ) (hg : g < p.routines) (hz : g < Z.routines) where
        returns_is : (y : ℕ) → y < Z.states → (k x : ℕ) → k + x ≤ Z.states → (s : Worklist) → s.known ≡ take (summaries Z) (flags_of known)
            → each (summary_step Z next known (number Z f m r 0) g y) k x s ≡ on_returns Z k x p f m r g y s
        unfolding each on_returns
        returns_is y hy zero x h s e = refl
        returns_is y hy (suc k) x h s e =
            let b = is_known_in Z s g y x in
            let t : is_set (flags_of known) (summary Z g y x) ≡ b = summary_known known g y x hz hy (omega arith) ∙ ap (λ (l : List ℕ). is_set l (summary Z g y x)) (sym e) in
            rw (t, event_when_is b x (Return g) hg s)
            (returns_is y hy k (suc x) (omega arith) _ (known_event_when b p f m r x (Return g) s ∙ e))

        root_when_is : (b : Bool) (y : ℕ) → y < Z.states → (s : Worklist) → s.known ≡ take (summaries Z) (flags_of known)
            → cond b (entry_step Z next known (number Z f m r 0) g y s) s ≡ root_when Z b p f m r g y s
        unfolding root_when
        root_when_is true y hy s e = returns_is y hy Z.states 0 (omega arith) (mark (number Z g 0 y y) s) (known_mark (number Z g 0 y y) s ∙ e)
        root_when_is false y hy s e = refl

        call_is : (q k y : ℕ) → k + y ≤ Z.states → (s : Worklist) → s.known ≡ take (summaries Z) (flags_of known)
            → each (root_step Z next known (number Z f m r 0) g q) k y s ≡ on_a_call Z k y p f m r q g s
        unfolding each on_a_call
        call_is q zero y h s e = refl
        call_is q (suc k) y h s e =
            let b = moves p.automaton q (Call g) y in
            rw (answer q (Call g) y hg, root_when_is b y (omega arith) s e)
            (call_is q k (suc y) (omega arith) _ (known_root_when b p f m r g y s ∙ e))

  module _ (p : Program) (next known : List ℕ) (w : WellFormed p) (rz : Ranged Z p) (ans : Answers p.automaton p.routines next) (q : ℕ) where
    label_is : (f m r label : ℕ) → label_fits p.routines p.automaton.actions label ≡ true → (s : Worklist) → s.known ≡ take (summaries Z) (flags_of known)
        → label_step Z next known (number Z f m r 0) q label s ≡ on_label Z p f m r q (event_of label) s
    unfolding label_step on_label
    label_is f m r label l s e = go (is_action label) refl
      where
        go : (t : Bool) → is_action label ≡ t → label_step Z next known (number Z f m r 0) q label s ≡ on_label Z p f m r q (event_of label) s
        go true t =
            let i = ltb-true label first_call t in
            rw (lt-leb first_call label i, t) (event_is p next w ans f m r q (Action label) (action_fits p w label l i) Z.states 0 s)
        go false t =
            let i = ltb-false label first_call t in
            let g = called_by label in
            let h = call_fits p w label l i in
            rw (le-leb first_call label i, t, lt-ltb g max_routines (omega (arith, well_formed_limits p w)))
            (call_is p next w ans f m r known g h (omega (arith, rz.routines)) q Z.states 0 (omega arith) s e)

    edge_is : (f n r : ℕ) (d : Edge) → label_fits p.routines p.automaton.actions d.label ≡ true → (s : Worklist) → s.known ≡ take (summaries Z) (flags_of known)
        → edge_step Z next known f n r q d s ≡ label_when Z (eqb d.routine f && eqb d.source n) p f d.target r q (event_of d.label) s
    unfolding edge_step label_when
    edge_is f n r d l s e = go (eqb d.routine f && eqb d.source n) refl
      where
        go : (t : Bool) → eqb d.routine f && eqb d.source n ≡ t
            → edge_step Z next known f n r q d s ≡ label_when Z (eqb d.routine f && eqb d.source n) p f d.target r q (event_of d.label) s
        go true t = rw t (label_is f d.target r d.label l s e)
        go false t = rw t

    -- the keys from x on, k of them
    pub edges_is : (f n r : ℕ) (keys : List ℕ)
        → ((i : ℕ) → i < length keys → label_fits p.routines p.automaton.actions (edge_of (get_or keys i 0)).label ≡ true)
        → (k x : ℕ) → k + x ≡ length keys → (s : Worklist) → s.known ≡ take (summaries Z) (flags_of known)
        → each (λ i. edge_step Z next known f n r q (edge_of (get_or keys i 0))) k x s ≡ on_steps Z p (steps_in (drop x keys)) f n r q s
    unfolding each on_steps
    edges_is f n r keys ls zero x h s e = rw (let z : length keys ≤ x = omega arith in drop_of_length-le keys z)
    edges_is f n r keys ls (suc k) x h s e =
        let d = edge_of (get_or keys x 0) in
        let t = eqb d.routine f && eqb d.source n in
        rw (drop-cons keys x 0 (omega arith))
        (ap (each (λ i. edge_step Z next known f n r q (edge_of (get_or keys i 0))) k (suc x)) (edge_is f n r d (ls x (omega arith)) s e)
        ∙ edges_is f n r keys ls k (suc x) (omega arith) _ (known_label_when t p f d.target r q (event_of d.label) s ∙ e))

  -- ---- callers

  module _ (g n q : ℕ) where
    roots_is : (k x : ℕ) (s : Worklist) → each (wake_at Z.states (number Z g n 0 q)) k x s ≡ wake_roots Z k x g n q s
    unfolding each wake_roots
    roots_is zero x s = refl
    roots_is (suc k) x s = rw (number_root Z g n x q) (roots_is k (suc x) _)

    wake_when_is : (b : Bool) (s : Worklist) → cond b (each (wake_at Z.states (number Z g n 0 q)) Z.states 0 s) s ≡ wake_when Z b g n q s
    unfolding wake_when
    wake_when_is true s = roots_is Z.states 0 s
    wake_when_is false s = refl

  module _ (p : Program) (next : List ℕ) (w : WellFormed p) (ans : Answers p.automaton p.routines next) (f r : ℕ) where
    states_is : (e : Edge) → e.label ≡ call_of f → f < p.routines → (k x : ℕ) (s : Worklist)
        → each (state_step Z next r e) k x s ≡ wake_states Z k x p f r e.routine e.source s
    unfolding each wake_states
    states_is e l hf zero x s = refl
    states_is e l hf (suc k) x s =
        let b = moves p.automaton x (Call f) r in
        let t : bit r (set_at next x e.label) ≡ b = rw l (answer p next w ans x (Call f) r hf) in
        rw (t, wake_when_is e.routine e.source x b s) (states_is e l hf k (suc x) _)

    caller_is : (e : Edge) → label_fits p.routines p.automaton.actions e.label ≡ true → (s : Worklist)
        → caller_step Z next f r e s ≡ caller_when Z (calls f (event_of e.label)) p f r e.routine e.source s
    unfolding caller_step caller_when calls
    caller_is e fits s = go (is_action e.label) refl (eqb (called_by e.label) f) refl
      where
        go : (t : Bool) → is_action e.label ≡ t → (u : Bool) → eqb (called_by e.label) f ≡ u
            → caller_step Z next f r e s ≡ caller_when Z (calls f (event_of e.label)) p f r e.routine e.source s
        go true t u v = rw (lt-leb first_call e.label (ltb-true e.label first_call t), t)
        go false t true u =
            let i = ltb-false e.label first_call t in
            let d = eqb-true (called_by e.label) f u in
            let l : e.label ≡ call_of f = omega arith in
            let h : f < p.routines = omega (arith, call_fits p w e.label fits i) in
            rw (le-leb first_call e.label i, t, u) (states_is e l h Z.states 0 s)
        go false t false u = rw (le-leb first_call e.label (ltb-false e.label first_call t), t, u)

    pub callers_is : (keys : List ℕ)
        → ((i : ℕ) → i < length keys → label_fits p.routines p.automaton.actions (edge_of (get_or keys i 0)).label ≡ true)
        → (k x : ℕ) → k + x ≡ length keys → (s : Worklist)
        → each (λ i. caller_step Z next f r (edge_of (get_or keys i 0))) k x s ≡ wake_callers Z p (steps_in (drop x keys)) f r s
    unfolding each wake_callers
    callers_is keys ls zero x h s = rw (let z : length keys ≤ x = omega arith in drop_of_length-le keys z)
    callers_is keys ls (suc k) x h s =
        rw (drop-cons keys x 0 (omega arith))
        (ap (each (λ i. caller_step Z next f r (edge_of (get_or keys i 0))) k (suc x)) (caller_is (edge_of (get_or keys x 0)) (ls x (omega arith)) s)
        ∙ callers_is keys ls k (suc x) (omega arith) _)
