-- The routines that the edits and exchanges of the cases reanalyze (paper: reopened): P5, P6, P8, R1, R2, E1 and E5, all of them
-- changes of the paper's program F or of one with other steps.
use Prim.Native.Nat.{ℕ, zero, suc, ◌/◌, ◌%◌, ◌^◌, ◌≤◌, ◌<◌}
use Prim.Native.String.{String}
use mathlib.Core.Path.{◌≡◌, refl, ap}
use mathlib.Core.Logic.{◌⊎◌, inl, inr, ◌↔◌}
use mathlib.Core.List.Memᴰ
use mathlib.Core.List.{List, [], ◌∷◌}
use native.Mathlib.Omega.{arith}
use native.Mathlib.Nat.{pow-le-pow_right, div-eq_of_lt}
use Rattle.text.specs.Lines.{lines, numbers_of}
use Rattle.automaton.specs.Automaton.{listed, heard, moves}
use Rattle.automaton.specs.declared.Event.{Event}
use Rattle.automaton.specs.declared.Event.TheVariants.{Action, Call}
use Rattle.program.specs.Program.{Edge, Program}
use Rattle.program.specs.Chosen.{largest, numbers}
use Rattle.program.specs.Reading.{judge_as, judge, after_as, after, read_from, read_file}
use Rattle.program.specs.Sample.{bytes, F}
use Rattle.reach.specs.Runs.{Step, HasStep}
use Rattle.reach.specs.Reachable.{seeded, by_action, by_call, by_return, initial, root, Reachable}
use Rattle.callgraph.specs.Components.{CallEdge, Leads, directly, through, Together, Anew, Changed, CallsChanged, Reanalyzed, Gained, Bits}
use Rattle.edit.specs.Editing.{inserted, without, edited_program}
use Rattle.edit.specs.declared.Label.TheVariants as label
use Rattle.edit.specs.declared.Edit.TheVariants.{Add, Drop, Replace}
use Rattle.exchange.specs.Changes.{step, whole as whole-routine}
use Rattle.exchange.specs.Changing.{others, inserted_all, emptied, exchanged_program}
use Rattle.inside_out.specs.Reanalyzed.{ReanalyzedBy}
use Rattle.demands.specs.Cases.{P5, P6, R1}

-- ---- the programs

-- F's program with some of its steps
abbrev with_steps : List Edge → Program
with_steps es =
    record {
      routines = 2;
      nodes = 3 ∷ 2 ∷ [];
      edges = es;
      automaton =
          record {
            states = 3;
            actions = 2;
            transitions =
                record { before = 0; label = 0; after = 1 } ∷ record { before = 0; label = 1; after = 2 }
                ∷ record { before = 1; label = 0; after = 1 } ∷ record { before = 1; label = 1; after = 1 } ∷ [];
            initial = 0 ∷ [];
            rejecting = 2 ∷ [];
          };
    }

-- main's call of routine 1, main's step after it, and the only step of routine 1
abbrev call : Edge
call = record { routine = 0; source = 0; label = 0x41; target = 2 }

abbrev last : Edge
last = record { routine = 0; source = 2; label = 1; target = 1 }

abbrev called : Edge
called = record { routine = 1; source = 0; label = 0; target = 1 }

-- a second step of routine 1, and a step of main in the place of its call
abbrev called_on : Edge
called_on = record { routine = 1; source = 0; label = 1; target = 1 }

abbrev acts : Edge
acts = record { routine = 0; source = 0; label = 0; target = 2 }

-- F, what P5's drop leaves of it and what P6's does
abbrev whole : Program
whole = with_steps (call ∷ last ∷ called ∷ [])

abbrev call_only : Program
call_only = with_steps (call ∷ last ∷ [])

abbrev uncalled : Program
uncalled = with_steps (last ∷ called ∷ [])

-- ---- calls

-- a call is no action
no_action : {g a : ℕ} → Call g ≡ Action a → ⊥
no_action e = let z : ◌≡◌ {A = ℕ} 0 1 = cc in absurd (omega arith)

-- no step calls
abbrev Silent : Program → Type 0
Silent p = (f g : ℕ) → CallEdge p f g → ⊥

-- the only call is main's of routine 1
abbrev MainCalls : Program → Type 0
MainCalls p = (f g : ℕ) → CallEdge p f g → (f ≡ 0) × (g ≡ 1)

no_steps_silent : Silent (with_steps [])
no_steps_silent f g c = absurd (Memᴰ.not-nil c.edge)

uncalled_silent : Silent uncalled
uncalled_silent f g c = go c.edge
  where
    go : {f g n m : ℕ} → HasStep uncalled f n (Call g) m → ⊥
    go (Memᴰ.head e) = no_action (ap (λ (s : Step). s.label) e)
    go (Memᴰ.tail (Memᴰ.head e)) = no_action (ap (λ (s : Step). s.label) e)
    go (Memᴰ.tail (Memᴰ.tail x)) = elim x [ ]

called_silent : Silent (with_steps (called ∷ []))
called_silent f g c = uncalled_silent f g (record { source = c.source; target = c.target; edge = Memᴰ.tail c.edge })

whole_calls : MainCalls whole
whole_calls f g c = go c.edge
  where
    go : {f g n m : ℕ} → HasStep whole f n (Call g) m → (f ≡ 0) × (g ≡ 1)
    go (Memᴰ.head e) = let l = ap (λ (s : Step). s.label) e in (ap (λ (s : Step). s.routine) e, cc)
    go (Memᴰ.tail (Memᴰ.head e)) = absurd (no_action (ap (λ (s : Step). s.label) e))
    go (Memᴰ.tail (Memᴰ.tail (Memᴰ.head e))) = absurd (no_action (ap (λ (s : Step). s.label) e))
    go (Memᴰ.tail (Memᴰ.tail (Memᴰ.tail x))) = elim x [ ]

call_calls : MainCalls (with_steps (call ∷ []))
call_calls f g c = go c.edge
  where
    go : {f g n m : ℕ} → HasStep (with_steps (call ∷ [])) f n (Call g) m → (f ≡ 0) × (g ≡ 1)
    go (Memᴰ.head e) = whole_calls _ _ (record { source = _; target = _; edge = Memᴰ.head e })
    go (Memᴰ.tail x) = elim x [ ]

call_only_calls : MainCalls call_only
call_only_calls f g c = go c.edge
  where
    go : {f g n m : ℕ} → HasStep call_only f n (Call g) m → (f ≡ 0) × (g ≡ 1)
    go (Memᴰ.head e) = whole_calls _ _ (record { source = _; target = _; edge = Memᴰ.head e })
    go (Memᴰ.tail (Memᴰ.head e)) = absurd (no_action (ap (λ (s : Step). s.label) e))
    go (Memᴰ.tail (Memᴰ.tail x)) = elim x [ ]

-- ---- which routines have configurations

-- without a call only main has
main_alone : {p : Program} {f n r q : ℕ} → Silent p → Reachable p f n r q → f ≡ 0
main_alone h (seeded (initial m) t) = refl
main_alone h (by_action d s m t) = main_alone h d
main_alone h (by_call d s m t) = absurd (h _ _ (record { source = _; target = _; edge = s }))
main_alone h (by_return d s m b k t) = main_alone h d

-- with the call 0 and 1 have
two_routines : {p : Program} {f n r q : ℕ} → MainCalls p → Reachable p f n r q → f < 2
two_routines h (seeded (initial m) t) = omega arith
two_routines h (by_action d s m t) = two_routines h d
two_routines h (by_call d s m t) = omega (arith, h _ _ (record { source = _; target = _; edge = s }))
two_routines h (by_return d s m b k t) = two_routines h d

-- by the call some run enters routine 1 in state 0
entered : {es : List Edge} → Reachable (with_steps (call ∷ es)) 1 0 0 0
unfolding moves listed heard
entered = by_call (seeded (initial (Memᴰ.head refl)) tt) (Memᴰ.head refl) refl tt

-- and in F it arrives at its exit in state 1
left : Reachable whole 1 1 0 1
unfolding moves listed heard
left = by_action entered (Memᴰ.tail (Memᴰ.tail (Memᴰ.head refl))) refl tt

-- ---- which routines are components

-- where main's call of 1 is the only one it leads no further
only_lead : {p : Program} {f g : ℕ} → MainCalls p → Leads p f g → (f ≡ 0) × (g ≡ 1)
only_lead h (directly c) = h _ _ c
only_lead h (through c l) = ((h _ _ c).0, (only_lead h l).1)

-- so each routine is a component alone
alone : {p : Program} {f g : ℕ} → MainCalls p → Together p f g → f ≡ g
alone h (inl e) = e
alone h (inr (there, back)) = let x = only_lead h there in let y = only_lead h back in absurd (omega (arith, x.1, y.0))

-- without a call no routine leads to any
no_lead : {p : Program} {f g : ℕ} → Silent p → Leads p f g → ⊥
no_lead h (directly c) = h _ _ c
no_lead h (through c l) = h _ _ c

-- ---- main is edited

-- it is reanalyzed
main_edited : {old p : Program} → Reanalyzed old p 0 0
main_edited = record { member = 0; together = inl refl; reason = inl refl }

-- and no other is: where no step calls
silent_only : {old p : Program} {f : ℕ} → Silent p → Reanalyzed old p 0 f → f < 1
silent_only {old} {p} {f} h o = go o.together o.reason
  where
    go : {m : ℕ} → Together p f m → (m ≡ 0) ⊎ CallsChanged old p f m → f < 1
    go (inl e) (inl z) = omega arith
    go (inr l) (inl z) = absurd (no_lead h l.0)
    go t (inr c) = absurd (h _ _ c.calls)

-- and where main's call of 1 is the only one
caller_only : {old p : Program} {f : ℕ} → MainCalls p → Reanalyzed old p 0 f → f < 1
caller_only {old} {p} {f} h o = let e = alone h o.together in go e o.reason
  where
    go : {m : ℕ} → f ≡ m → (m ≡ 0) ⊎ CallsChanged old p f m → f < 1
    go e (inl z) = omega arith
    go e (inr c) = omega (arith, (h _ _ c.calls).0)

-- ---- routine 1 loses its step

-- every step is main's
main_steps : {f n m : ℕ} {l : Event} → HasStep call_only f n l m → f ≡ 0
main_steps (Memᴰ.head e) = ap (λ (s : Step). s.routine) e
main_steps (Memᴰ.tail (Memᴰ.head e)) = ap (λ (s : Step). s.routine) e
main_steps (Memᴰ.tail (Memᴰ.tail x)) = elim x [ ]

-- from no old roots is the exit of routine 1 derived
no_exit : {p : Program} {f n r q : ℕ} → Anew p call_only f n r q → f ≡ 1 → n ≡ 1 → ⊥
no_exit (seeded (root x) t) f n = absurd (omega arith)
no_exit (by_action d s m t) f n = absurd (omega (arith, main_steps s))
no_exit (by_call d s m t) f n = absurd (omega arith)
no_exit (by_return d s m b k t) f n = absurd (omega (arith, main_steps s))

-- so its summaries have changed
changed : Changed whole call_only 1
changed = record { root = 0; state = 1; old = entered; differs = inl (left, λ d. no_exit d refl refl) }

-- main is reanalyzed: it calls routine 1
main_reanalyzed : Reanalyzed whole call_only 1 0
main_reanalyzed =
    record {
      member = 0;
      together = inl refl;
      reason =
          inr
          (record {
            called = 1;
            calls = record { source = 0; target = 2; edge = Memᴰ.head refl };
            outside = λ t. let e = alone call_only_calls t in absurd (omega arith);
            changed = changed;
          });
    }

-- routine 1 is: it is the edited one
called_reanalyzed : Reanalyzed whole call_only 1 1
called_reanalyzed = record { member = 1; together = inl refl; reason = inl refl }

-- and no other is
no_other : {f : ℕ} → Reanalyzed whole call_only 1 f → f < 2
no_other {f} o = let e = alone call_only_calls o.together in go e o.reason
  where
    go : {m : ℕ} → f ≡ m → (m ≡ 1) ⊎ CallsChanged whole call_only f m → f < 2
    go e (inl h) = omega arith
    go e (inr c) = omega (arith, (call_only_calls _ _ c.calls).0)

-- ---- a step more in routine 1, which is not called

abbrev uncalled_more : Program
uncalled_more = with_steps (last ∷ called ∷ called_on ∷ [])

-- no step leads from main's entry
no_first : {f n m : ℕ} {l : Event} → HasStep uncalled_more f n l m → f ≡ 0 → n ≡ 0 → ⊥
no_first (Memᴰ.head e) f n = let z = ap (λ (s : Step). s.source) e in absurd (omega arith)
no_first (Memᴰ.tail (Memᴰ.head e)) f n = let z = ap (λ (s : Step). s.routine) e in absurd (omega arith)
no_first (Memᴰ.tail (Memᴰ.tail (Memᴰ.head e))) f n = let z = ap (λ (s : Step). s.routine) e in absurd (omega arith)
no_first (Memᴰ.tail (Memᴰ.tail (Memᴰ.tail x))) f n = elim x [ ]

-- so nothing but main's entry is there
entry_only : {f n r q : ℕ} → Reachable uncalled_more f n r q → (f ≡ 0) × (n ≡ 0)
entry_only (seeded (initial m) t) = (refl, refl)
entry_only (by_action d s m t) = absurd (no_first s (entry_only d).0 (entry_only d).1)
entry_only (by_call d s m t) = absurd (no_first s (entry_only d).0 (entry_only d).1)
entry_only (by_return d s m b k t) = absurd (no_first s (entry_only d).0 (entry_only d).1)

-- which was there before
before : {f n r q : ℕ} → Reachable uncalled_more f n r q → Reachable uncalled f n r q
before (seeded (initial m) t) = seeded (initial m) t
before (by_action d s m t) = absurd (no_first s (entry_only d).0 (entry_only d).1)
before (by_call d s m t) = absurd (no_first s (entry_only d).0 (entry_only d).1)
before (by_return d s m b k t) = absurd (no_first s (entry_only d).0 (entry_only d).1)

-- ---- as bits

-- a number has no bit beyond its length
no_bit : (n k f : ℕ) → n < 2 ^ k → k ≤ f → n / 2 ^ f % 2 ≡ 1 → ⊥
no_bit n k f small h e =
    let longer : 2 ^ k ≤ 2 ^ f = pow-le-pow_right {n = 2} (omega arith) {i = k} {j = f} h in
    let z : n / 2 ^ f ≡ 0 = div-eq_of_lt {n = n} {m = 2 ^ f} (omega (arith, small, longer)) in
    absurd (omega (arith, ap (λ (x : ℕ). x % 2) z))

module _ (R : ℕ → Type 0) where
  no_routine : ((f : ℕ) → R f → ⊥) → Bits R 0
  no_routine none = record { small = omega arith; bit = λ f h. (λ e. absurd (no_bit 0 0 f (omega arith) (omega arith) e), λ o. absurd (none f o)) }

  routine_0 : R 0 → ((f : ℕ) → R f → f < 1) → Bits R 1
  routine_0 main only = record { small = omega arith; bit = go }
    where
      go : (f : ℕ) → f < 16 → (1 / 2 ^ f % 2 ≡ 1) ↔ R f
      go zero h = (λ e. main, λ o. refl)
      go (suc f) h = (λ e. absurd (no_bit 1 1 (suc f) (omega arith) (omega arith) e), λ o. absurd (omega (arith, only (suc f) o)))

  routines_0_1 : R 0 → R 1 → ((f : ℕ) → R f → f < 2) → Bits R 3
  routines_0_1 main one only = record { small = omega arith; bit = go }
    where
      go : (f : ℕ) → f < 16 → (3 / 2 ^ f % 2 ≡ 1) ↔ R f
      go zero h = (λ e. main, λ o. refl)
      go (suc zero) h = (λ e. one, λ o. refl)
      go (suc (suc f)) h = (λ e. absurd (no_bit 3 2 (suc (suc f)) (omega arith) (omega arith) e), λ o. absurd (omega (arith, only (suc (suc f)) o)))

-- the drop that makes every call go, and then an add that brings main's call of 1 back: the drop reanalyzes main, and routine 1 gains
called_again : (old : Program) (es es' : List Edge) → Silent (with_steps es) → MainCalls (with_steps (call ∷ es'))
    → Bits (λ f. Reanalyzed old (with_steps es) 0 f ⊎ Gained (with_steps es) (with_steps (call ∷ es')) f) 3
called_again old es es' h k =
    routines_0_1 _ (inl main_edited)
    (inr (record { node = 0; root = 0; state = 0; now_there = entered; not_before = λ d. absurd (omega (arith, main_alone h d)) }))
    (λ f o. only o)
  where
    only : {f : ℕ} → Reanalyzed old (with_steps es) 0 f ⊎ Gained (with_steps es) (with_steps (call ∷ es')) f → f < 2
    only (inl o) = omega (arith, silent_only h o)
    only (inr g) = two_routines k g.now_there

-- routine 1 without its only step, and then with it again
stepped_again : Bits (λ f. Reanalyzed whole call_only 1 f ⊎ Gained call_only whole f) 3
stepped_again = routines_0_1 _ (inl main_reanalyzed) (inl called_reanalyzed) (λ f o. only o)
  where
    only : {f : ℕ} → Reanalyzed whole call_only 1 f ⊎ Gained call_only whole f → f < 2
    only (inl o) = no_other o
    only (inr g) = two_routines whole_calls g.now_there

-- ---- for the programs that are read from the bytes of files

-- to unfold this is to unfold all that reading, editing and exchanging compute with
changing : Unit {0}
unfolding lines numbers_of largest numbers judge_as judge after_as after read_from read_file inserted without edited_program others inserted_all emptied exchanged_program
changing = tt

abbrev program_of : List String → Program
program_of file = (read_file (bytes file)).program

-- P5: dropping 01 00 00 01 from F reanalyzes routines 0 and 1
pub p5_reanalyzed : Bits (ReanalyzedBy (step (Drop (record { routine = 1; source = 0; label = label.Action 0; target = 1 }))) (program_of F)) 3
unfolding changing
p5_reanalyzed = routines_0_1 _ main_reanalyzed called_reanalyzed (λ f o. no_other o)

-- P6: dropping 00 00 41 02 reanalyzes routine 0 only
pub p6_reanalyzed : Bits (ReanalyzedBy (step (Drop (record { routine = 0; source = 0; label = label.Call 1; target = 2 }))) (program_of F)) 1
unfolding changing
p6_reanalyzed = routine_0 _ main_edited (λ f o. silent_only uncalled_silent o)

-- P8: adding 01 00 01 01 to what P6 leaves reanalyzes none
pub p8_reanalyzed : Bits (ReanalyzedBy (step (Add (record { routine = 1; source = 0; label = label.Action 1; target = 1 }))) (program_of P6.wrote)) 0
unfolding changing
p8_reanalyzed = no_routine _ (λ f g. g.not_before (before g.now_there))

-- R1: a step of main becomes a call of routine 1, which is not called otherwise
pub r1_reanalyzed : Bits (ReanalyzedBy (step (Replace (record { routine = 0; source = 0; label = label.Action 0; target = 2 }) (label.Call 1))) (program_of R1.file)) 3
unfolding changing
r1_reanalyzed = called_again (with_steps (acts ∷ [])) [] [] no_steps_silent call_calls

-- R2: dropping 00 02 01 01 from what P5 leaves reanalyzes routine 0 only
pub r2_reanalyzed : Bits (ReanalyzedBy (step (Drop (record { routine = 0; source = 2; label = label.Action 1; target = 1 }))) (program_of P5.wrote)) 1
unfolding changing
r2_reanalyzed = routine_0 _ main_edited (λ f o. caller_only call_calls o)

-- E1: routine 1 exchanged for itself reanalyzes routines 0 and 1
pub e1_reanalyzed : Bits (ReanalyzedBy (whole-routine (record { routine = 1; nodes = 2; edges = called ∷ [] })) (program_of F)) 3
unfolding changing
e1_reanalyzed = stepped_again

-- E5: main, which called no routine, exchanged so that it calls routine 1
pub e5_reanalyzed : Bits (ReanalyzedBy (whole-routine (record { routine = 0; nodes = 3; edges = call ∷ last ∷ [] })) (program_of P6.wrote)) 3
unfolding changing
e5_reanalyzed = called_again uncalled (called ∷ []) (last ∷ called ∷ []) called_silent whole_calls
