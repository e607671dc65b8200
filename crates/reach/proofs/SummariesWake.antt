-- What a new summary wakes.
use mathlib.Core.Path.{◌≡◌, refl, sym, ap, subst, ◌∙◌}
use mathlib.Core.Logic.{◌⊎◌, inl, inr}
use mathlib.Core.Bool.{Bool, true, false}
use mathlib.Core.List.{List, [], ◌∷◌, Memᴰ}
use Prim.Native.Nat.{ℕ, zero, suc, ◌+◌, ◌≤◌, ◌<◌}
use native.Mathlib.Omega.{arith}
use borrow.Author.Tests.{eqb-true, eq-eqb}
use Rattle.automaton.specs.Automaton.{moves}
use Rattle.automaton.specs.declared.Event.{Event}
use Rattle.automaton.specs.declared.Event.TheVariants.{Action, Call, Return}
use Rattle.program.specs.Program.{Program}
use Rattle.reach.specs.Configurations.{number, node_of}
use Rattle.reach.specs.Runs.{Step, steps_of, HasStep, Moves}
use Rattle.reach.specs.Worklist.{Worklist, Shape, wake, wake_roots, calls, wake_when, wake_states, caller_when, wake_callers}
use Rattle.reach.proofs.Numbers.{node-of, number_fits}
use Rattle.base.specs.Flags.{On}
use Rattle.base.proofs.SetFlags.{eqb_on, eqb_off, set_on, on_set, set_inv}
use Rattle.reach.proofs.ShapeKept.{wake_by, wake_when_kept, caller_when_kept, shape_kept}
use Rattle.reach.proofs.EdgesMark.{When, when_false, Within, within_none, within_split, within_here, within_there, step}
use Rattle.program.specs.declared.sizes.Sizes.{Sizes}
use Rattle.program.specs.Chosen.{numbers}
use Rattle.reach.specs.Configurations.{Usable}
use Rattle.reach.specs.Ranged.{Ranged}

-- ---- marked numbers become pending

-- t is s with those of the numbers A that are marked pending
pub record Wakes (A : ℕ → Type 0) (s t : Worklist) : Type 0 where
  pub marks : t.marks ≡ s.marks
  pub known : t.known ≡ s.known
  pub wait : {j : ℕ} → On s.pending j → On t.pending j
  pub woken : {j : ℕ} → A j → On s.marks j → On t.pending j
  pub waits : {j : ℕ} → On t.pending j → On s.pending j ⊎ (A j × On s.marks j)

wakes_none : {A : ℕ → Type 0} → ((j : ℕ) → ¬ (A j)) → (s : Worklist) → Wakes A s s
wakes_none h s = record { marks = refl; known = refl; wait = λ x. x; woken = λ {j} x y. absurd (h j x); waits = λ x. inl x }

wakes_join : {A B C : ℕ → Type 0} {s t u : Worklist} → ((j : ℕ) → C j → A j ⊎ B j) → ((j : ℕ) → A j → C j) → ((j : ℕ) → B j → C j)
    → Wakes A s t → Wakes B t u → Wakes C s u
wakes_join c ca cb a b =
    record {
      marks = b.marks ∙ a.marks;
      known = b.known ∙ a.known;
      wait = λ h. b.wait (a.wait h);
      woken = λ {j} x h. elim (c j x) [ inl y ↦ b.wait (a.woken y h) | inr y ↦ b.woken y (rw a.marks h) ];
      waits = λ {j} h.
          elim (b.waits h) [
            | inl y ↦ elim (a.waits y) [ inl x ↦ inl x | inr x ↦ inr (ca j x.0, x.1) ]
            | inr y ↦ inr (cb j y.0, rw a.marks at y.1)
          ];
    }

wakes_if : {A : ℕ → Type 0} {s t : Worklist} → Wakes A s t → Wakes (When true A) s t
wakes_if a =
    record {
      marks = a.marks;
      known = a.known;
      wait = a.wait;
      woken = λ x h. a.woken x.1 h;
      waits = λ h. elim (a.waits h) [ inl x ↦ inl x | inr x ↦ inr ((refl, x.0), x.1) ];
    }

wakes_unless : {A : ℕ → Type 0} (s : Worklist) → Wakes (When false A) s s
wakes_unless {A} s = wakes_none (when_false A) s

wakes_turn : {A : ℕ → ℕ → Type 0} {x k : ℕ} {s t u : Worklist} → Wakes (A x) s t → Wakes (Within (suc x) k A) t u → Wakes (Within x (suc k) A) s u
wakes_turn a b = wakes_join (λ j. within_split) (λ j. within_here) (λ j. within_there) a b

-- ---- all the steps

it_calls : (f : ℕ) (l : Event) → calls f l ≡ true → l ≡ Call f
unfolding calls
it_calls f (Action a) t = absurd (let w : ◌≡◌ {A = ℕ} 0 1 = cc in omega arith)
it_calls f (Call g) t = ap Call (eqb-true g f t)
it_calls f (Return g) t = absurd (let w : ◌≡◌ {A = ℕ} 0 1 = cc in omega arith)

calls_it : (f : ℕ) (l : Event) → l ≡ Call f → calls f l ≡ true
unfolding calls
calls_it f l e = rw e (eq-eqb f f refl)

module _ (Z : Sizes) (U : Usable Z) where
  wake_one : (i : ℕ) (s : Worklist) → i < numbers Z → Shape Z s → Wakes (λ j. j ≡ i) s (wake i s)
  wake_one i s h z =
      wake_by (λ t. Wakes (λ j. j ≡ i) s t) i s
      (λ e. record { marks = refl; known = refl; wait = λ x. x; woken = λ x y. absurd (eqb_off s.marks i e (rw x at y)); waits = λ x. inl x })
      (λ e. record {
        marks = refl;
        known = refl;
        wait = λ {j} x. on_set s.pending i j x;
        woken = λ x y. rw x (set_on s.pending i (omega (arith, z.pending_length)));
        waits = λ {j} x. elim (set_inv s.pending i j x) [ inl y ↦ inr (y, rw y (eqb_on s.marks i e)) | inr y ↦ inl y ];
      })

  -- ---- a node

  -- j is the number of the configuration at node n of g in state q with root x
  abbrev pub InState : ℕ → ℕ → ℕ → ℕ → ℕ → Type 0
  InState g n q x j = j ≡ number Z g n x q

  wake-roots : (k x g n q : ℕ) (s : Worklist) → g < Z.routines → n < Z.nodes → q < Z.states → x + k ≤ Z.states → Shape Z s
      → Wakes (Within x k (InState g n q)) s (wake_roots Z k x g n q s)
  unfolding wake_roots
  wake-roots zero x g n q s hg hn hq h z = wakes_none (λ j. within_none x) s
  wake-roots (suc k) x g n q s hg hn hq h z =
      let i = number Z g n x q in
      wakes_turn (wake_one i s (number_fits (record { routine = hg; node = hn; root = omega arith; state = hq })) z)
      (wake-roots k (suc x) g n q (wake i s) hg hn hq (omega arith) ((shape_kept Z U).by_wake i s z))

  wake-when : (b : Bool) (g n q : ℕ) (s : Worklist) → g < Z.routines → n < Z.nodes → q < Z.states → Shape Z s
      → Wakes (When b (Within 0 Z.states (InState g n q))) s (wake_when Z b g n q s)
  unfolding wake_when
  wake-when true g n q s hg hn hq z = wakes_if (wake-roots Z.states 0 g n q s hg hn hq (omega arith) z)
  wake-when false g n q s hg hn hq z = wakes_unless s

  -- a call of f leads from q to root r, and j is the number of a configuration at node n of g in state q
  abbrev pub Gives : Program → ℕ → ℕ → ℕ → ℕ → ℕ → ℕ → Type 0
  Gives p f r g n q j = Moves p q (Call f) r × Within 0 Z.states (InState g n q) j

  wake-states : (k x : ℕ) (p : Program) (f r g n : ℕ) (s : Worklist) → g < Z.routines → n < Z.nodes → x + k ≤ Z.states → Shape Z s
      → Wakes (Within x k (Gives p f r g n)) s (wake_states Z k x p f r g n s)
  unfolding wake_states
  wake-states zero x p f r g n s hg hn h z = wakes_none (λ j. within_none x) s
  wake-states (suc k) x p f r g n s hg hn h z =
      let t = moves p.automaton x (Call f) r in
      wakes_turn (wake-when t g n x s hg hn (omega arith) z)
      (wake-states k (suc x) p f r g n (wake_when Z t g n x s) hg hn (omega arith) (wake_when_kept Z U (shape_kept Z U) t g n x s z))

  caller-when : (b : Bool) (p : Program) (f r g n : ℕ) (s : Worklist) → g < Z.routines → n < Z.nodes → Shape Z s
      → Wakes (When b (Within 0 Z.states (Gives p f r g n))) s (caller_when Z b p f r g n s)
  unfolding caller_when
  caller-when true p f r g n s hg hn z = wakes_if (wake-states Z.states 0 p f r g n s hg hn (omega arith) z)
  caller-when false p f r g n s hg hn z = wakes_unless s

  -- j is the number of a configuration from which a step calls f and can give root r
  pub record Caller (p : Program) (es : List Step) (f r j : ℕ) : Type 0 where
    pub routine : ℕ
    pub node : ℕ
    pub target : ℕ
    pub member : Memᴰ (step routine node (Call f) target) es
    pub gives : Within 0 Z.states (Gives p f r routine node) j

  pub caller_node : {p : Program} {f r j : ℕ} → Ranged Z p → (c : Caller p (steps_of p) f r j) → node_of Z j ≡ c.node
  caller_node z c =
      let q = c.gives in
      let x = q.holds.1 in
      let hq = q.high in
      let hx = x.high in
      ap (node_of Z) x.holds ∙ node-of (record { routine = z.routine c.member; node = z.source c.member; root = omega arith; state = omega arith })

  pub wake-callers : (p : Program) (es : List Step) (f r : ℕ) (s : Worklist) → Ranged Z p → ((e : Step) → Memᴰ e es → Memᴰ e (steps_of p))
      → Shape Z s → Wakes (Caller p es f r) s (wake_callers Z p es f r s)
  unfolding wake_callers
  wake-callers p [] f r s i sub z = wakes_none (λ j c. elim c.member [ ]) s
  wake-callers p (e ∷ es) f r s i sub z =
      let x : HasStep p e.routine e.source e.label e.target = sub e (Memᴰ.head refl) in
      let t = calls f e.label in
      wakes_join split here there (caller-when t p f r e.routine e.source s (i.routine x) (i.source x) z)
      (wake-callers p es f r (caller_when Z t p f r e.routine e.source s) i (λ x y. sub x (Memᴰ.tail y))
      (caller_when_kept Z U (shape_kept Z U) t p f r e.routine e.source s z))
    where
      here : (j : ℕ) → When (calls f e.label) (Within 0 Z.states (Gives p f r e.routine e.source)) j → Caller p (e ∷ es) f r j
      here j c =
          let l = it_calls f e.label c.0 in
          record {
            routine = e.routine;
            node = e.source;
            target = e.target;
            member = Memᴰ.head (λ i. step e.routine e.source (sym l i) e.target);
            gives = c.1;
          }

      there : (j : ℕ) → Caller p es f r j → Caller p (e ∷ es) f r j
      there j c = record { routine = c.routine; node = c.node; target = c.target; member = Memᴰ.tail c.member; gives = c.gives }

      split : (j : ℕ) → Caller p (e ∷ es) f r j
          → When (calls f e.label) (Within 0 Z.states (Gives p f r e.routine e.source)) j ⊎ Caller p es f r j
      split j c = go c.member
        where
          go : Memᴰ (step c.routine c.node (Call f) c.target) (e ∷ es)
              → When (calls f e.label) (Within 0 Z.states (Gives p f r e.routine e.source)) j ⊎ Caller p es f r j
          go (Memᴰ.head y) =
              let it = calls_it f e.label (sym (ap (λ (x : Step). x.label) y)) in
              inl (it, subst (λ (x : Step). Within 0 Z.states (Gives p f r x.routine x.source) j) y c.gives)
          go (Memᴰ.tail y) = inr (record { routine = c.routine; node = c.node; target = c.target; member = y; gives = c.gives })
