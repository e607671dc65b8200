-- What every iteration keeps: the lengths of the lists, and that their bytes are 0 or 1.
use mathlib.Core.Path.{◌≡◌, refl, ◌∙◌}
use mathlib.Core.Bool.{Bool, true, false, ◌&&◌}
use mathlib.Core.Option.{Option, none, some}
use mathlib.Core.List.{List, [], ◌∷◌}
use Prim.Native.Nat.{ℕ, zero, suc, ◌+◌, ◌≤◌}
use native.Mathlib.Omega.{arith}
use lib.Dec.{eqb}
use lib.ListN.{length, get_or, set, length-set, length-replicate}
use Rattle.automaton.specs.Automaton.{moves}
use Rattle.automaton.specs.declared.Event.{Event}
use Rattle.automaton.specs.declared.Event.TheVariants.{Action, Call, Return}
use Rattle.program.specs.Program.{Program}
use Rattle.reach.specs.Configurations.{number, routine_of, node_of, root_of, state_of, none_set}
use Rattle.reach.specs.Runs.{Step, steps_of}
use Rattle.reach.specs.Worklist.{Worklist, Shape, lowest, mark, wake, learn, take_from, take_one, work, opened, blank, analysis_at}
use Rattle.reach.specs.Worklist.{mark_when, is_known_in, on_event, event_when, on_returns, root_when, on_a_call, on_label, label_when, on_steps}
use Rattle.reach.specs.Worklist.{wake_roots, calls, wake_when, wake_states, caller_when, wake_callers}
use Rattle.base.proofs.SetFlags.{set_bits, zeros}
use Rattle.program.specs.declared.sizes.Sizes.{Sizes}
use Rattle.program.specs.Chosen.{numbers}
use Rattle.reach.specs.Sizes.{summaries, enough_iterations}
use Rattle.reach.specs.Configurations.{Usable}

-- number i is pending no more
abbrev pub taking : ℕ → Worklist → Worklist
taking i s = record { marks = s.marks; pending = set s.pending i 0; known = s.known; iterations = s.iterations + 1 }

-- number j is marked and pending
abbrev pub marked : ℕ → Worklist → Worklist
marked j s = record { marks = set s.marks j 1; pending = set s.pending j 1; known = s.known; iterations = s.iterations }

-- number j is pending
abbrev pub awake : ℕ → Worklist → Worklist
awake j s = record { marks = s.marks; pending = set s.pending j 1; known = s.known; iterations = s.iterations }

-- marking and waking, by whether the number is marked
module _ (P : Worklist → Type 0) (j : ℕ) (s : Worklist) where
  pub mark_by : (eqb (get_or s.marks j 0) 0 ≡ true → P (marked j s)) → (eqb (get_or s.marks j 0) 0 ≡ false → P s) → P (mark j s)
  unfolding mark
  mark_by new old = go (eqb (get_or s.marks j 0) 0) refl
    where
      go : (b : Bool) → eqb (get_or s.marks j 0) 0 ≡ b → P (mark j s)
      go true e = rw (e, mark) (new e)
      go false e = rw (e, mark) (old e)

  pub wake_by : (eqb (get_or s.marks j 0) 0 ≡ true → P s) → (eqb (get_or s.marks j 0) 0 ≡ false → P (awake j s)) → P (wake j s)
  unfolding wake
  wake_by off on = go (eqb (get_or s.marks j 0) 0) refl
    where
      go : (b : Bool) → eqb (get_or s.marks j 0) 0 ≡ b → P (wake j s)
      go true e = rw (e, wake) (off e)
      go false e = rw (e, wake) (on e)

-- ---- the iterations are counted

record Counted (n : ℕ) (s : Worklist) : Type 0 where
  count : s.iterations ≡ n

module _ (Z : Sizes) (U : Usable Z) where
  -- what marking, waking and learning keep
  pub record Kept (P : Worklist → Type 0) : Type 0 where
    pub by_mark : (j : ℕ) (s : Worklist) → P s → P (mark j s)
    pub by_wake : (j : ℕ) (s : Worklist) → P s → P (wake j s)
    pub by_learn : (f r q : ℕ) (s : Worklist) → P s → P (learn Z f r q s)

  module _ {P : Worklist → Type 0} (k : Kept P) where
    pub when_kept : (b : Bool) (j : ℕ) (s : Worklist) → P s → P (mark_when b j s)
    unfolding mark_when
    when_kept true j s h = k.by_mark j s h
    when_kept false j s h = h

    event_kept : (c x : ℕ) (p : Program) (f m r q : ℕ) (e : Event) (s : Worklist) → P s → P (on_event Z c x p f m r q e s)
    unfolding on_event
    event_kept zero x p f m r q e s h = h
    event_kept (suc c) x p f m r q e s h = event_kept c (suc x) p f m r q e _ (when_kept (moves p.automaton q e x) (number Z f m r x) s h)

    pub event_when_kept : (b : Bool) (p : Program) (f m r q : ℕ) (e : Event) (s : Worklist) → P s → P (event_when Z b p f m r q e s)
    unfolding event_when
    event_when_kept true p f m r q e s h = event_kept Z.states 0 p f m r q e s h
    event_when_kept false p f m r q e s h = h

    returns_kept : (c x : ℕ) (p : Program) (f m r g y : ℕ) (s : Worklist) → P s → P (on_returns Z c x p f m r g y s)
    unfolding on_returns
    returns_kept zero x p f m r g y s h = h
    returns_kept (suc c) x p f m r g y s h = returns_kept c (suc x) p f m r g y _ (event_when_kept (is_known_in Z s g y x) p f m r x (Return g) s h)

    pub root_when_kept : (b : Bool) (p : Program) (f m r g y : ℕ) (s : Worklist) → P s → P (root_when Z b p f m r g y s)
    unfolding root_when
    root_when_kept true p f m r g y s h = returns_kept Z.states 0 p f m r g y _ (k.by_mark (number Z g 0 y y) s h)
    root_when_kept false p f m r g y s h = h

    call_kept : (c y : ℕ) (p : Program) (f m r q g : ℕ) (s : Worklist) → P s → P (on_a_call Z c y p f m r q g s)
    unfolding on_a_call
    call_kept zero y p f m r q g s h = h
    call_kept (suc c) y p f m r q g s h = call_kept c (suc y) p f m r q g _ (root_when_kept (moves p.automaton q (Call g) y) p f m r g y s h)

    label_kept : (p : Program) (f m r q : ℕ) (l : Event) (s : Worklist) → P s → P (on_label Z p f m r q l s)
    unfolding on_label
    label_kept p f m r q (Action a) s h = event_kept Z.states 0 p f m r q (Action a) s h
    label_kept p f m r q (Call g) s h = call_kept Z.states 0 p f m r q g s h
    label_kept p f m r q (Return g) s h = h

    pub label_when_kept : (b : Bool) (p : Program) (f m r q : ℕ) (l : Event) (s : Worklist) → P s → P (label_when Z b p f m r q l s)
    unfolding label_when
    label_when_kept true p f m r q l s h = label_kept p f m r q l s h
    label_when_kept false p f m r q l s h = h

    steps_kept : (p : Program) (es : List Step) (f n r q : ℕ) (s : Worklist) → P s → P (on_steps Z p es f n r q s)
    unfolding on_steps
    steps_kept p [] f n r q s h = h
    steps_kept p (e ∷ es) f n r q s h =
        steps_kept p es f n r q _ (label_when_kept (eqb e.routine f && eqb e.source n) p f e.target r q e.label s h)

    roots_kept : (c x g n q : ℕ) (s : Worklist) → P s → P (wake_roots Z c x g n q s)
    unfolding wake_roots
    roots_kept zero x g n q s h = h
    roots_kept (suc c) x g n q s h = roots_kept c (suc x) g n q _ (k.by_wake (number Z g n x q) s h)

    pub wake_when_kept : (b : Bool) (g n q : ℕ) (s : Worklist) → P s → P (wake_when Z b g n q s)
    unfolding wake_when
    wake_when_kept true g n q s h = roots_kept Z.states 0 g n q s h
    wake_when_kept false g n q s h = h

    states_kept : (c x : ℕ) (p : Program) (f r g n : ℕ) (s : Worklist) → P s → P (wake_states Z c x p f r g n s)
    unfolding wake_states
    states_kept zero x p f r g n s h = h
    states_kept (suc c) x p f r g n s h = states_kept c (suc x) p f r g n _ (wake_when_kept (moves p.automaton x (Call f) r) g n x s h)

    pub caller_when_kept : (b : Bool) (p : Program) (f r g n : ℕ) (s : Worklist) → P s → P (caller_when Z b p f r g n s)
    unfolding caller_when
    caller_when_kept true p f r g n s h = states_kept Z.states 0 p f r g n s h
    caller_when_kept false p f r g n s h = h

    callers_kept : (p : Program) (es : List Step) (f r : ℕ) (s : Worklist) → P s → P (wake_callers Z p es f r s)
    unfolding wake_callers
    callers_kept p [] f r s h = h
    callers_kept p (e ∷ es) f r s h = callers_kept p es f r _ (caller_when_kept (calls f e.label) p f r e.routine e.source s h)

    from_kept : (b : Bool) (p : Program) (f n r q : ℕ) (s : Worklist) → P s → P (take_from Z b p f n r q s)
    unfolding take_from
    from_kept true p f n r q s h = callers_kept p (steps_of p) f r _ (k.by_learn f r q s h)
    from_kept false p f n r q s h = steps_kept p (steps_of p) f n r q s h

    pub take_kept : (p : Program) (i : ℕ) (s : Worklist) → P (taking i s) → P (take_one Z p i s)
    unfolding take_one
    take_kept p i s h = from_kept (eqb (node_of Z i) 1) p (routine_of Z i) (node_of Z i) (root_of Z i) (state_of Z i) _ h

    pub opened_kept : (qs : List ℕ) (s : Worklist) → P s → P (opened Z qs s)
    unfolding opened
    opened_kept [] s h = h
    opened_kept (q ∷ qs) s h = opened_kept qs _ (k.by_mark (number Z 0 0 q q) s h)

  -- what the taking of a pending number keeps
  module _ {P : Worklist → Type 0} (p : Program) (k : (i : ℕ) (s : Worklist) → lowest s.pending 0 ≡ some i → P s → P (take_one Z p i s)) where
    pub work_kept : (c : ℕ) (o : Option ℕ) (s : Worklist) → lowest s.pending 0 ≡ o → P s → P (work Z c p o s)
    unfolding work
    work_kept zero o s e h = h
    work_kept (suc c) none s e h = h
    work_kept (suc c) (some i) s e h = work_kept c (lowest (take_one Z p i s).pending 0) (take_one Z p i s) refl (k i s e h)

  -- ---- lengths and bytes

  marks_shape : (j : ℕ) (s : Worklist) → Shape Z s → Shape Z (record { marks = set s.marks j 1; pending = s.pending; known = s.known; iterations = s.iterations })
  marks_shape j s z =
      record {
        marks-length = length-set s.marks j 1 ∙ z.marks-length;
        pending_length = z.pending_length;
        known_length = z.known_length;
        marks_bits = set_bits s.marks j 1 (omega arith) z.marks_bits;
        pending_bits = z.pending_bits;
        known_bits = z.known_bits;
      }

  pending_shape : (j v n : ℕ) (s : Worklist) → v ≤ 1 → Shape Z s
      → Shape Z (record { marks = s.marks; pending = set s.pending j v; known = s.known; iterations = n })
  pending_shape j v n s h z =
      record {
        marks-length = z.marks-length;
        pending_length = length-set s.pending j v ∙ z.pending_length;
        known_length = z.known_length;
        marks_bits = z.marks_bits;
        pending_bits = set_bits s.pending j v h z.pending_bits;
        known_bits = z.known_bits;
      }

  pub learn_shape : (f r q : ℕ) (s : Worklist) → Shape Z s → Shape Z (learn Z f r q s)
  unfolding learn
  learn_shape f r q s z =
      record {
        marks-length = z.marks-length;
        pending_length = z.pending_length;
        known_length = length-set s.known _ 1 ∙ z.known_length;
        marks_bits = z.marks_bits;
        pending_bits = z.pending_bits;
        known_bits = set_bits s.known _ 1 (omega arith) z.known_bits;
      }

  pub taking_shape : (i : ℕ) (s : Worklist) → Shape Z s → Shape Z (taking i s)
  taking_shape i s z = pending_shape i 0 (s.iterations + 1) s (omega arith) z

  mark_shape : (j : ℕ) (s : Worklist) → Shape Z s → Shape Z (mark j s)
  mark_shape j s z = mark_by (Shape Z) j s (λ e. pending_shape j 1 s.iterations _ (omega arith) (marks_shape j s z)) (λ e. z)

  wake_shape : (j : ℕ) (s : Worklist) → Shape Z s → Shape Z (wake j s)
  wake_shape j s z = wake_by (Shape Z) j s (λ e. z) (λ e. pending_shape j 1 s.iterations s (omega arith) z)

  pub shape_kept : Kept (Shape Z)
  shape_kept = record { by_mark = mark_shape; by_wake = wake_shape; by_learn = learn_shape }

  pub none_length : length (none_set Z) ≡ numbers Z
  unfolding none_set
  none_length = length-replicate {A = ℕ} (numbers Z) 0

  pub blank_shape : Shape Z (blank Z)
  unfolding none_set
  blank_shape =
      record {
        marks-length = none_length;
        pending_length = none_length;
        known_length = length-replicate {A = ℕ} (summaries Z) 0;
        marks_bits = λ i. omega (arith, zeros (numbers Z) i);
        pending_bits = λ i. omega (arith, zeros (numbers Z) i);
        known_bits = λ i. omega (arith, zeros (summaries Z) i);
      }

  pub opened_shape : (qs : List ℕ) → Shape Z (opened Z qs (blank Z))
  opened_shape qs = opened_kept shape_kept qs (blank Z) blank_shape

  pub take_shape : (p : Program) (i : ℕ) (s : Worklist) → Shape Z s → Shape Z (take_one Z p i s)
  take_shape p i s z = take_kept shape_kept p i s (taking_shape i s z)

  pub work_shape : (k : ℕ) (p : Program) (o : Option ℕ) (s : Worklist) → lowest s.pending 0 ≡ o → Shape Z s → Shape Z (work Z k p o s)
  work_shape k p o s e z = work_kept p (λ i t h. take_shape p i t) k o s e z

  pub analysis_shape : (p : Program) → Shape Z (analysis_at Z p)
  unfolding analysis_at
  analysis_shape p = work_shape (enough_iterations Z) p _ (opened Z p.automaton.initial (blank Z)) refl (opened_shape p.automaton.initial)

  pub marks-length : (p : Program) → length (analysis_at Z p).marks ≡ numbers Z
  marks-length p = (analysis_shape p).marks-length

  pub pending_length : (p : Program) → length (analysis_at Z p).pending ≡ numbers Z
  pending_length p = (analysis_shape p).pending_length

  pub known_length : (p : Program) → length (analysis_at Z p).known ≡ summaries Z
  known_length p = (analysis_shape p).known_length

  pub marks_bits : (p : Program) (i : ℕ) → get_or (analysis_at Z p).marks i 0 ≤ 1
  marks_bits p i = (analysis_shape p).marks_bits i

  counted_kept : (n : ℕ) → Kept (Counted n)
  unfolding learn
  counted_kept n =
      record {
        by_mark = λ j s h. mark_by (Counted n) j s (λ e. record { count = h.count }) (λ e. h);
        by_wake = λ j s h. wake_by (Counted n) j s (λ e. h) (λ e. record { count = h.count });
        by_learn = λ f r q s h. record { count = h.count };
      }

  pub take_iterations : (p : Program) (i : ℕ) (s : Worklist) → (take_one Z p i s).iterations ≡ s.iterations + 1
  take_iterations p i s = (take_kept (counted_kept (s.iterations + 1)) p i s (record { count = refl })).count

  pub opened_iterations : (qs : List ℕ) → (opened Z qs (blank Z)).iterations ≡ 0
  opened_iterations qs = (opened_kept (counted_kept 0) qs (blank Z) (record { count = refl })).count

  -- one iteration of the loop
  pub work_step : (k : ℕ) (p : Program) (i : ℕ) (s : Worklist) → lowest s.pending 0 ≡ some i
      → work Z (suc k) p (lowest s.pending 0) s ≡ work Z k p (lowest (take_one Z p i s).pending 0) (take_one Z p i s)
  unfolding work
  work_step k p i s e = rw e

  pub work_done : (k : ℕ) (p : Program) (s : Worklist) → lowest s.pending 0 ≡ none → work Z k p (lowest s.pending 0) s ≡ s
  unfolding work
  work_done zero p s e = refl
  work_done (suc k) p s e = rw e

  pub work_iterations : (k : ℕ) (p : Program) (o : Option ℕ) (s : Worklist) → (work Z k p o s).iterations ≤ s.iterations + k
  unfolding work
  work_iterations zero p o s = omega arith
  work_iterations (suc k) p none s = omega arith
  work_iterations (suc k) p (some i) s = omega (arith, work_iterations k p (lowest (take_one Z p i s).pending 0) (take_one Z p i s), take_iterations p i s)
