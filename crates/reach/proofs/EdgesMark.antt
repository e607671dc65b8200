-- What following the steps of a configuration marks.
use mathlib.Core.Path.{◌≡◌, refl, sym, ap, subst, ◌∙◌}
use mathlib.Core.Logic.{◌⊎◌, inl, inr}
use mathlib.Core.Bool.{Bool, true, false, ◌&&◌, not}
use mathlib.Core.List.{List, [], ◌∷◌, Memᴰ}
use Prim.Native.Nat.{ℕ, zero, suc, ◌+◌, ◌≤◌, ◌<◌}
use native.Mathlib.Omega.{arith}
use native.Mathlib.Decide.{ℕ_discrete}
use lib.Dec.{eqb}
use borrow.Author.Tests.{eqb-true, eq-eqb, not-true}
use Rattle.automaton.specs.Automaton.{moves}
use Rattle.automaton.specs.declared.Event.{Event}
use Rattle.automaton.specs.declared.Event.TheVariants.{Action, Call, Return}
use Rattle.program.specs.Program.{Program}
use Rattle.base.proofs.Bools.{both}
use Rattle.reach.specs.Configurations.{number}
use Rattle.reach.specs.Runs.{Step, steps_of, HasStep, Moves}
use Rattle.reach.specs.Worklist.{Worklist, Shape, mark, mark_when, summary, is_known_in, opened}
use Rattle.reach.specs.Worklist.{on_event, event_when, on_returns, root_when, on_a_call, on_label, label_when, on_steps}
use Rattle.reach.proofs.Numbers.{number_fits}
use Rattle.base.specs.Flags.{On}
use Rattle.base.proofs.SetFlags.{eqb_on, eqb_off, on_eqb, set_on, on_set, set_inv}
use Rattle.reach.proofs.ShapeKept.{mark_by, when_kept, event_when_kept, root_when_kept, label_when_kept, shape_kept}
use Rattle.program.specs.declared.sizes.Sizes.{Sizes}
use Rattle.program.specs.Chosen.{numbers}
use Rattle.reach.specs.Configurations.{Usable}
use Rattle.reach.specs.Ranged.{Ranged}

-- t is s with the numbers A marked; those that are new are pending
pub record Marks (A : ℕ → Type 0) (s t : Worklist) : Type 0 where
  pub keep : {j : ℕ} → On s.marks j → On t.marks j
  pub all : {j : ℕ} → A j → On t.marks j
  pub new : {j : ℕ} → On t.marks j → On s.marks j ⊎ (A j × On t.pending j)
  pub wait : {j : ℕ} → On s.pending j → On t.pending j
  pub waits : {j : ℕ} → On t.pending j → On s.pending j ⊎ (On t.marks j × (¬ (On s.marks j)))
  pub known : t.known ≡ s.known

marks_none : {A : ℕ → Type 0} → ((j : ℕ) → ¬ (A j)) → (s : Worklist) → Marks A s s
marks_none h s = record { keep = λ x. x; all = λ {j} x. absurd (h j x); new = λ x. inl x; wait = λ x. x; waits = λ x. inl x; known = refl }

marks_same : {A C : ℕ → Type 0} {s t : Worklist} → ((j : ℕ) → C j → A j) → ((j : ℕ) → A j → C j) → Marks A s t → Marks C s t
marks_same to from a =
    record {
      keep = a.keep;
      all = λ {j} x. a.all (to j x);
      new = λ {j} x. elim (a.new x) [ inl y ↦ inl y | inr y ↦ inr (from j y.0, y.1) ];
      wait = a.wait;
      waits = a.waits;
      known = a.known;
    }

marks_join : {A B C : ℕ → Type 0} {s t u : Worklist} → ((j : ℕ) → C j → A j ⊎ B j) → ((j : ℕ) → A j → C j) → ((j : ℕ) → B j → C j)
    → Marks A s t → Marks B t u → Marks C s u
marks_join c ca cb a b =
    record {
      keep = λ h. b.keep (a.keep h);
      all = λ {j} h. elim (c j h) [ inl x ↦ b.keep (a.all x) | inr x ↦ b.all x ];
      new = λ {j} h.
          elim (b.new h) [
            | inl m ↦ elim (a.new m) [ inl x ↦ inl x | inr x ↦ inr (ca j x.0, b.wait x.1) ]
            | inr m ↦ inr (cb j m.0, m.1)
          ];
      wait = λ h. b.wait (a.wait h);
      waits = λ h.
          elim (b.waits h) [
            | inl m ↦ elim (a.waits m) [ inl x ↦ inl x | inr x ↦ inr (b.keep x.0, x.1) ]
            | inr m ↦ inr (m.0, λ x. m.1 (a.keep x))
          ];
      known = b.known ∙ a.known;
    }

-- ---- by a test

-- A holds of j, and the test is passed
abbrev pub When : Bool → (ℕ → Type 0) → ℕ → Type 0
When b A j = (b ≡ true) × A j

pub when_false : (A : ℕ → Type 0) (j : ℕ) → ¬ (When false A j)
when_false A j c = let w : ◌≡◌ {A = ℕ} 0 1 = cc c.0 in omega arith

marks_if : {A : ℕ → Type 0} {s t : Worklist} → Marks A s t → Marks (When true A) s t
marks_if a = marks_same (λ j c. c.1) (λ j c. (refl, c)) a

marks_unless : {A : ℕ → Type 0} (s : Worklist) → Marks (When false A) s s
marks_unless {A} s = marks_none (when_false A) s

-- ---- by a loop over states

-- A holds of j at some x of lo, .., lo + k - 1
pub record Within (lo k : ℕ) (A : ℕ → ℕ → Type 0) (j : ℕ) : Type 0 where
  pub at : ℕ
  pub low : lo ≤ at
  pub high : at < lo + k
  pub holds : A at j

module _ {A : ℕ → ℕ → Type 0} {j : ℕ} where
  pub within_none : (lo : ℕ) → ¬ (Within lo 0 A j)
  within_none lo c = let l = c.low in let u = c.high in omega arith

  pub within_split : {lo k : ℕ} → Within lo (suc k) A j → A lo j ⊎ Within (suc lo) k A j
  within_split {lo} c =
      let l = c.low in
      let u = c.high in
      elim (ℕ_discrete c.at lo) [
        | yes e ↦ inl (subst (λ (x : ℕ). A x j) e c.holds)
        | no ne ↦ inr (record { at = c.at; low = omega arith; high = omega arith; holds = c.holds })
      ]

  pub within_here : {lo k : ℕ} → A lo j → Within lo (suc k) A j
  within_here {lo} h = record { at = lo; low = omega arith; high = omega arith; holds = h }

  pub within_there : {lo k : ℕ} → Within (suc lo) k A j → Within lo (suc k) A j
  within_there c = let l = c.low in let u = c.high in record { at = c.at; low = omega arith; high = omega arith; holds = c.holds }

  pub within_at : {k : ℕ} (x : ℕ) → x < k → A x j → Within 0 k A j
  within_at x l h = record { at = x; low = omega arith; high = omega arith; holds = h }

-- one turn of a loop
marks_turn : {A : ℕ → ℕ → Type 0} {x k : ℕ} {s t u : Worklist} → Marks (A x) s t → Marks (Within (suc x) k A) t u → Marks (Within x (suc k) A) s u
marks_turn a b = marks_join (λ j. within_split) (λ j. within_here) (λ j. within_there) a b

abbrev pub step : ℕ → ℕ → Event → ℕ → Step
step f n l m = record { routine = f; source = n; label = l; target = m }

abbrev from_here : Step → ℕ → ℕ → Bool
from_here e f n = eqb e.routine f && eqb e.source n

is_step : (e : Step) (f n : ℕ) → from_here e f n ≡ true → step f n e.label e.target ≡ e
is_step e f n t =
    let c = both (eqb e.routine f) (eqb e.source n) t in
    let a = eqb-true e.routine f c.0 in
    let b = eqb-true e.source n c.1 in
    λ i. step (sym a i) (sym b i) e.label e.target

step_is : (e : Step) (f n : ℕ) (l : Event) (m : ℕ) → step f n l m ≡ e → from_here e f n ≡ true
step_is e f n l m h =
    rw (eq-eqb e.routine f (sym (ap (λ (x : Step). x.routine) h)), eq-eqb e.source n (sym (ap (λ (x : Step). x.source) h)))

module _ (Z : Sizes) (U : Usable Z) where
  -- ---- one number

  mark_one : (i : ℕ) (s : Worklist) → i < numbers Z → Shape Z s → Marks (λ j. j ≡ i) s (mark i s)
  mark_one i s h z =
      let hm = set_on s.marks i (omega (arith, z.marks-length)) in
      let hp = set_on s.pending i (omega (arith, z.pending_length)) in
      mark_by (λ t. Marks (λ j. j ≡ i) s t) i s
      (λ e. record {
        keep = λ {j} x. on_set s.marks i j x;
        all = λ x. rw x hm;
        new = λ {j} x. elim (set_inv s.marks i j x) [ inl y ↦ inr (y, rw y hp) | inr y ↦ inl y ];
        wait = λ {j} x. on_set s.pending i j x;
        waits = λ {j} x. elim (set_inv s.pending i j x) [ inl y ↦ inr (rw y hm, λ o. eqb_off s.marks i e (rw y at o)) | inr y ↦ inl y ];
        known = refl;
      })
      (λ e. record {
        keep = λ x. x;
        all = λ x. rw x (eqb_on s.marks i e);
        new = λ x. inl x;
        wait = λ x. x;
        waits = λ x. inl x;
        known = refl;
      })

  mark-when : (b : Bool) (i : ℕ) (s : Worklist) → i < numbers Z → Shape Z s → Marks (When b (λ j. j ≡ i)) s (mark_when b i s)
  unfolding mark_when
  mark-when true i s h z = marks_if (mark_one i s h z)
  mark-when false i s h z = marks_unless s

  -- ---- an event

  -- a node of a routine, and a root
  record Small (f m r : ℕ) : Type 0 where
    routine : f < Z.routines
    node : m < Z.nodes
    root : r < Z.states

  small_fits : {f m r : ℕ} → Small f m r → (x : ℕ) → x < Z.states → number Z f m r x < numbers Z
  small_fits b x h = number_fits (record { routine = b.routine; node = b.node; root = b.root; state = h })

  -- the event leads from q to x, and j is the number there
  abbrev pub Result : Program → ℕ → ℕ → ℕ → ℕ → Event → ℕ → ℕ → Type 0
  Result p f m r q e x j = Moves p q e x × (j ≡ number Z f m r x)

  on-event : (k x : ℕ) (p : Program) (f m r q : ℕ) (e : Event) (s : Worklist) → Small f m r → x + k ≤ Z.states → Shape Z s
      → Marks (Within x k (Result p f m r q e)) s (on_event Z k x p f m r q e s)
  unfolding on_event
  on-event zero x p f m r q e s b h z = marks_none (λ j. within_none x) s
  on-event (suc k) x p f m r q e s b h z =
      let t = moves p.automaton q e x in
      let i = number Z f m r x in
      marks_turn (mark-when t i s (small_fits b x (omega arith)) z)
      (on-event k (suc x) p f m r q e (mark_when t i s) b (omega arith) (when_kept Z U (shape_kept Z U) t i s z))

  event-when : (b : Bool) (p : Program) (f m r q : ℕ) (e : Event) (s : Worklist) → Small f m r → Shape Z s
      → Marks (When b (Within 0 Z.states (Result p f m r q e))) s (event_when Z b p f m r q e s)
  unfolding event_when
  event-when true p f m r q e s b z = marks_if (on-event Z.states 0 p f m r q e s b (omega arith) z)
  event-when false p f m r q e s b z = marks_unless s

  -- ---- a call

  is_known : (s : Worklist) (g r q : ℕ) → On s.known (summary Z g r q) → is_known_in Z s g r q ≡ true
  is_known s g r q h = ap not (on_eqb s.known (summary Z g r q) h)

  known_is : (s : Worklist) (g r q : ℕ) → is_known_in Z s g r q ≡ true → On s.known (summary Z g r q)
  known_is s g r q h = eqb_on s.known (summary Z g r q) (not-true _ h)

  -- the summary (y, x) of g is known, and j is a number that the return from x gives
  abbrev pub Back : Program → List ℕ → ℕ → ℕ → ℕ → ℕ → ℕ → ℕ → ℕ → Type 0
  Back p ks f m r g y x j = On ks (summary Z g y x) × Within 0 Z.states (Result p f m r x (Return g)) j

  -- what is known stays the same while numbers are marked
  on-returns : (k x : ℕ) (p : Program) (f m r g y : ℕ) (s : Worklist) (ks : List ℕ) → s.known ≡ ks → Small f m r → x + k ≤ Z.states → Shape Z s
      → Marks (Within x k (Back p ks f m r g y)) s (on_returns Z k x p f m r g y s)
  unfolding on_returns
  on-returns zero x p f m r g y s ks e b h z = marks_none (λ j. within_none x) s
  on-returns (suc k) x p f m r g y s ks e b h z =
      let t = is_known_in Z s g y x in
      let d = event-when t p f m r x (Return g) s b z in
      marks_turn
      (marks_same (λ j c. (is_known s g y x (rw e c.0), c.1)) (λ j c. (rw e at (known_is s g y x c.0), c.1)) d)
      (on-returns k (suc x) p f m r g y (event_when Z t p f m r x (Return g) s) ks (d.known ∙ e) b (omega arith)
      (event_when_kept Z U (shape_kept Z U) t p f m r x (Return g) s z))

  -- j is a number that a call of g gives by root y
  pub data ByRoot (p : Program) (ks : List ℕ) (f m r g y j : ℕ) : Type 0 where
    by_entry : j ≡ number Z g 0 y y → ByRoot p ks f m r g y j
    by_summary : Within 0 Z.states (Back p ks f m r g y) j → ByRoot p ks f m r g y j

  root-when : (b : Bool) (p : Program) (f m r g y : ℕ) (s : Worklist) (ks : List ℕ) → s.known ≡ ks → Small f m r → g < Z.routines → y < Z.states → Shape Z s
      → Marks (When b (ByRoot p ks f m r g y)) s (root_when Z b p f m r g y s)
  unfolding root_when
  root-when true p f m r g y s ks e b hg hy z =
      let i = number Z g 0 y y in
      let d = mark_one i s (number_fits (record { routine = hg; node = omega arith; root = hy; state = hy })) z in
      marks_if (marks_join split (λ j. by_entry) (λ j. by_summary) d
      (on-returns Z.states 0 p f m r g y (mark i s) ks (d.known ∙ e) b (omega arith) ((shape_kept Z U).by_mark i s z)))
    where
      split : (j : ℕ) → ByRoot p ks f m r g y j → (j ≡ number Z g 0 y y) ⊎ Within 0 Z.states (Back p ks f m r g y) j
      split j (by_entry c) = inl c
      split j (by_summary c) = inr c
  root-when false p f m r g y s ks e b hg hy z = marks_unless s

  -- the call leads from q to root y, and j is a number that it gives by that root
  abbrev pub Entering : Program → List ℕ → ℕ → ℕ → ℕ → ℕ → ℕ → ℕ → ℕ → Type 0
  Entering p ks f m r q g y j = Moves p q (Call g) y × ByRoot p ks f m r g y j

  on_call : (k y : ℕ) (p : Program) (f m r q g : ℕ) (s : Worklist) (ks : List ℕ) → s.known ≡ ks → Small f m r → g < Z.routines → y + k ≤ Z.states → Shape Z s
      → Marks (Within y k (Entering p ks f m r q g)) s (on_a_call Z k y p f m r q g s)
  unfolding on_a_call
  on_call zero y p f m r q g s ks e b hg h z = marks_none (λ j. within_none y) s
  on_call (suc k) y p f m r q g s ks e b hg h z =
      let t = moves p.automaton q (Call g) y in
      let d = root-when t p f m r g y s ks e b hg (omega arith) z in
      marks_turn d
      (on_call k (suc y) p f m r q g (root_when Z t p f m r g y s) ks (d.known ∙ e) b hg (omega arith) (root_when_kept Z U (shape_kept Z U) t p f m r g y s z))

  -- ---- a label, and all the steps

  -- j is a number that a step by this label marks; a return is no step
  abbrev pub ByLabel : Program → List ℕ → ℕ → ℕ → ℕ → ℕ → Event → ℕ → Type 0
  ByLabel p ks f m r q (Action a) j = Within 0 Z.states (Result p f m r q (Action a)) j
  ByLabel p ks f m r q (Call g) j = Within 0 Z.states (Entering p ks f m r q g) j
  ByLabel p ks f m r q (Return g) j = ⊥

  on-label : (p : Program) (f m r q : ℕ) (l : Event) (n : ℕ) (s : Worklist) (ks : List ℕ) → s.known ≡ ks → Ranged Z p → HasStep p f n l m
      → r < Z.states → Shape Z s → Marks (ByLabel p ks f m r q l) s (on_label Z p f m r q l s)
  unfolding on_label
  on-label p f m r q (Action a) n s ks k i e hr z =
      on-event Z.states 0 p f m r q (Action a) s (record { routine = i.routine e; node = i.target e; root = hr }) (omega arith) z
  on-label p f m r q (Call g) n s ks k i e hr z =
      on_call Z.states 0 p f m r q g s ks k (record { routine = i.routine e; node = i.target e; root = hr }) (i.called e) (omega arith) z
  on-label p f m r q (Return g) n s ks k i e hr z = marks_none (λ j c. c) s

  label-when : (b : Bool) (p : Program) (f m r q : ℕ) (l : Event) (n : ℕ) (s : Worklist) (ks : List ℕ) → s.known ≡ ks → Ranged Z p
      → (b ≡ true → HasStep p f n l m) → r < Z.states → Shape Z s → Marks (When b (ByLabel p ks f m r q l)) s (label_when Z b p f m r q l s)
  unfolding label_when
  label-when true p f m r q l n s ks k i e hr z = marks_if (on-label p f m r q l n s ks k i (e refl) hr z)
  label-when false p f m r q l n s ks k i e hr z = marks_unless s

  -- j is a number that some step of the list marks
  pub record ByStep (p : Program) (ks : List ℕ) (es : List Step) (f n r q j : ℕ) : Type 0 where
    pub label : Event
    pub target : ℕ
    pub member : Memᴰ (step f n label target) es
    pub does : ByLabel p ks f target r q label j

  pub on-steps : (p : Program) (es : List Step) (f n r q : ℕ) (s : Worklist) (ks : List ℕ) → s.known ≡ ks → Ranged Z p
      → ((e : Step) → Memᴰ e es → Memᴰ e (steps_of p)) → r < Z.states → Shape Z s
      → Marks (ByStep p ks es f n r q) s (on_steps Z p es f n r q s)
  unfolding on_steps
  on-steps p [] f n r q s ks k i sub hr z = marks_none (λ j c. elim c.member [ ]) s
  on-steps p (e ∷ es) f n r q s ks k i sub hr z =
      let t = from_here e f n in
      let d = label-when t p f e.target r q e.label n s ks k i (λ y. sub _ (Memᴰ.head (is_step e f n y))) hr z in
      marks_join split here there d
      (on-steps p es f n r q (label_when Z t p f e.target r q e.label s) ks (d.known ∙ k) i (λ x y. sub x (Memᴰ.tail y)) hr
      (label_when_kept Z U (shape_kept Z U) t p f e.target r q e.label s z))
    where
      split : (j : ℕ) → ByStep p ks (e ∷ es) f n r q j → When (from_here e f n) (ByLabel p ks f e.target r q e.label) j ⊎ ByStep p ks es f n r q j
      split j c = go c.member
        where
          go : Memᴰ (step f n c.label c.target) (e ∷ es)
              → When (from_here e f n) (ByLabel p ks f e.target r q e.label) j ⊎ ByStep p ks es f n r q j
          go (Memᴰ.head y) =
              inl (step_is e f n c.label c.target y, subst (λ (x : Step). ByLabel p ks f x.target r q x.label j) y c.does)
          go (Memᴰ.tail y) = inr (record { label = c.label; target = c.target; member = y; does = c.does })

      here : (j : ℕ) → When (from_here e f n) (ByLabel p ks f e.target r q e.label) j → ByStep p ks (e ∷ es) f n r q j
      here j c = record { label = e.label; target = e.target; member = Memᴰ.head (is_step e f n c.0); does = c.1 }

      there : (j : ℕ) → ByStep p ks es f n r q j → ByStep p ks (e ∷ es) f n r q j
      there j c = record { label = c.label; target = c.target; member = Memᴰ.tail c.member; does = c.does }

  -- ---- the initial states

  pub record Opening (qs : List ℕ) (j : ℕ) : Type 0 where
    pub state : ℕ
    pub member : Memᴰ state qs
    pub is : j ≡ number Z 0 0 state state

  pub on_opened : (qs : List ℕ) (s : Worklist) → 0 < Z.routines → ((q : ℕ) → Memᴰ q qs → q < Z.states) → Shape Z s → Marks (Opening qs) s (opened Z qs s)
  unfolding opened
  on_opened [] s main h z = marks_none (λ j c. elim c.member [ ]) s
  on_opened (q ∷ qs) s main h z =
      let hq = h q (Memᴰ.head refl) in
      let i = number Z 0 0 q q in
      marks_join split (λ j c. record { state = q; member = Memᴰ.head refl; is = c })
      (λ j c. record { state = c.state; member = Memᴰ.tail c.member; is = c.is })
      (mark_one i s (number_fits (record { routine = main; node = omega arith; root = hq; state = hq })) z)
      (on_opened qs (mark i s) main (λ x y. h x (Memᴰ.tail y)) ((shape_kept Z U).by_mark i s z))
    where
      split : (j : ℕ) → Opening (q ∷ qs) j → (j ≡ number Z 0 0 q q) ⊎ Opening qs j
      split j c = go c.member
        where
          go : Memᴰ c.state (q ∷ qs) → (j ≡ number Z 0 0 q q) ⊎ Opening qs j
          go (Memᴰ.head e) = inl (c.is ∙ ap (λ (x : ℕ). number Z 0 0 x x) e)
          go (Memᴰ.tail m) = inr (record { state = c.state; member = m; is = c.is })
