-- What the search over edges and states means: it finds support just where there is some.
use mathlib.Core.Path.{◌≡◌, refl, sym, ap, subst, ◌∙◌}
use mathlib.Core.Bool.{Bool, true, false, cond, ◌&&◌, or-true}
use mathlib.Core.List.{List, map, Memᴰ}
use Prim.Native.Nat.{ℕ, ◌<◌}
use native.Mathlib.Omega.{arith}
use lib.Dec.{eqb}
use borrow.Author.Tests.{eqb-true, ltb-true, leb-true, leb-false, eq-eqb, lt-ltb, lt-leb, le-leb}
use Rattle.base.specs.Bits.{bit}
use Rattle.base.specs.Flags.{is_set}
use Rattle.base.proofs.Bools.{both, either, never, cond_true}
use Rattle.base.proofs.SetFlags.{set_byte, byte_set}
use Rattle.automaton.specs.Sizes.{first_call}
use Rattle.automaton.specs.Automaton.{call_of, return_of, label_of, moves}
use Rattle.automaton.specs.NextStates.{set_at, Ranged}
use Rattle.automaton.specs.declared.Event.{Event}
use Rattle.automaton.specs.declared.Event.TheVariants.{Action, Call, Return}
use Rattle.automaton.proofs.MovesAsked.{asked}
use Rattle.program.specs.Program.{Edge, Program, is_action, is_call, called_by}
use Rattle.program.specs.Decoded.{edge_of}
use Rattle.program.proofs.ProgramRanged.{ranged}
use Rattle.reach.specs.Configurations.{Set, InRange, number}
use Rattle.reach.specs.Runs.{Step, event_of, step_of, HasStep, Moves}
use Rattle.reach.specs.Marks.{Marked}
use Rattle.reach.proofs.ProgramInSizes.{map_in}
use Rattle.reach.proofs.Labels.{call_label, label_calls, step_event}
use Rattle.base.specs.Searches.{any_from}
use Rattle.kept.specs.Parts.{move_kept, caller_kept, return_kept}
use Rattle.support.specs.Parts.{entry_supports, return_supports, call_supports}
use Rattle.support.specs.Parts.{states_to_try, action_supports, edge_supports, supports, Tables}
use Rattle.base.proofs.SearchesAsk.{found_from, any-from}
use Rattle.support.proofs.KeysAsked.{found_key, any-key, in_map}
use Rattle.kept.proofs.CallsFound.{move_found, move_there, CallerAt, caller_found, caller_there, ReturnAt, return_found, return_there}
use Rattle.program.specs.declared.sizes.Sizes.{Sizes}
use Rattle.reach.specs.Configurations.{Usable}
use Rattle.reach.specs.Ranged.{Ranged as RangedIn}

-- a configuration has support in K by an action, by being called, or after a call
pub data Supported (p : Program) (K : Set) : ℕ → ℕ → ℕ → ℕ → Type 0 where
  by_edge : {f n r q k a y : ℕ} → HasStep p f k (Action a) n → Moves p y (Action a) q → K f k r y → Supported p K f n r q
  as_called : {f r g k x y m : ℕ} → HasStep p g k (Call f) m → Moves p y (Call f) r → K g k x y → Supported p K f 0 r r
  as_returned : {f n r q k g y s x : ℕ} → HasStep p f k (Call g) n → K f k r y → Moves p y (Call g) s → K g 1 s x
      → Moves p x (Return g) q → Supported p K f n r q

at_entry : {p : Program} {K : Set} {f n r q : ℕ} → n ≡ 0 → r ≡ q → Supported p K f 0 r r → Supported p K f n r q
at_entry a b s = rw (a, ← b) s

-- ---- labels

action_label : (a : ℕ) → is_call a ≡ false → event_of a ≡ Action a
action_label a e = rw (lt-ltb a first_call (leb-false first_call a e)) refl

label_action : (a b : ℕ) → event_of a ≡ Action b → (is_call a ≡ false) × (a ≡ b)
label_action a b e = go (is_action a) refl e
  where
    go : (t : Bool) → is_action a ≡ t → cond t (Action a) (Call (called_by a)) ≡ Action b → (is_call a ≡ false) × (a ≡ b)
    go true h e = (lt-leb first_call a (ltb-true a first_call h), cc)
    go false h e = absurd (let z : ◌≡◌ {A = ℕ} 0 1 = cc in omega arith)

-- ---- the keys of edges

-- the key of a step
record Keyed (keys : List ℕ) (f n : ℕ) (l : Event) (t : ℕ) : Type 0 where
  key : ℕ
  member : Memᴰ key keys
  routine : (edge_of key).routine ≡ f
  source : (edge_of key).source ≡ n
  label : event_of (edge_of key).label ≡ l
  target : (edge_of key).target ≡ t

module _ (Z : Sizes) (U : Usable Z) where
  -- ---- tests

  -- the states are tried for an action that leads there
  tried_states : (t : ℕ → Bool) (b c : Bool) → any_from t (cond b (cond c 0 Z.states) 0) 0 ≡ true
      → (b ≡ true) × (c ≡ false) × (any_from t Z.states 0 ≡ true)
  unfolding any_from
  tried_states t true true e = never e refl
  tried_states t true false e = (refl, refl, e)
  tried_states t false c e = never e refl

  module _ (p : Program) (keys next : List ℕ) (t : Tables Z p keys next) where
    z : RangedIn Z p
    z = t.sized.ranged

    has_step : (key : ℕ) → Memᴰ key keys
        → HasStep p (edge_of key).routine (edge_of key).source (event_of (edge_of key).label) (edge_of key).target
    has_step key h =
        subst (λ (es : List Edge). Memᴰ (step_of (edge_of key)) (map step_of es)) (sym t.edges)
        (in_map step_of (map edge_of keys) (in_map edge_of keys h))

    keyed : {f n s : ℕ} {l : Event} → HasStep p f n l s → Keyed keys f n l s
    keyed h =
        let x = map_in step_of p.edges h in
        let y = map_in edge_of keys (subst (λ (es : List Edge). Memᴰ x.from es) t.edges x.member) in
        let e : ◌≡◌ {A = Step} (record { routine = _; source = _; label = _; target = _ }) (step_of (edge_of y.from)) = x.is ∙ ap step_of y.is in
        record {
          key = y.from;
          member = y.member;
          routine = sym (ap (λ (s : Step). s.routine) e);
          source = sym (ap (λ (s : Step). s.source) e);
          label = sym (ap (λ (s : Step). s.label) e);
          target = sym (ap (λ (s : Step). s.target) e);
        }

    -- ---- one look at the automaton, by the event of a step

    in_range : Ranged p.automaton p.routines
    in_range = ranged p t.well_formed

    move_asked : {f n m : ℕ} {l : Event} → HasStep p f n l m → (q s : ℕ) → bit s (set_at next q (label_of l)) ≡ moves p.automaton q l s
    move_asked {l = l} h q s = asked p.automaton p.routines in_range t.answers q l s (step_event p t.well_formed h)

    return_asked : {f n m g : ℕ} → HasStep p f n (Call g) m → (q s : ℕ) → bit s (set_at next q (return_of g)) ≡ moves p.automaton q (Return g) s
    return_asked {g = g} h q s = asked p.automaton p.routines in_range t.answers q (Return g) s (step_event p t.well_formed h)

    -- ---- what the search finds is support

    module _ (kept : List ℕ) {f n r q : ℕ} (g : InRange Z f n r q) where
      entry_found : (key : ℕ) → Memᴰ key keys → entry_supports Z next kept (edge_of key) f n r q ≡ true → Supported p (Marked Z kept) f n r q
      unfolding entry_supports
      entry_found key h e =
          let label = (edge_of key).label in
          let from = (edge_of key).routine in
          let source = (edge_of key).source in
          let c = cond_true (eqb n 0 && eqb r q && eqb label (call_of f)) (caller_kept Z next kept (edge_of key) r) e in
          let d = both (eqb n 0 && eqb r q) (eqb label (call_of f)) c.0 in
          let u = both (eqb n 0) (eqb r q) d.0 in
          let x = caller_found Z U next kept (edge_of key) r c.1 in
          let is-call : label ≡ call_of f = eqb-true label (call_of f) d.1 in
          let called : event_of label ≡ Call f = call_label label (le-leb first_call label (omega arith)) ∙ ap Call (omega arith) in
          let s : HasStep p from source (Call f) (edge_of key).target = rw called at (has_step key h) in
          let gives = subst (λ (l : ℕ). bit r (set_at next x.state l) ≡ true) is-call x.gives in
          let v : Moves p x.state (Call f) r = sym (move_asked s x.state r) ∙ gives in
          let caller : Marked Z kept from source x.root x.state =
          (record { routine = z.routine s; node = z.source s; root = x.root_small; state = x.state_small }, set_byte kept _ x.caller) in
          at_entry (eqb-true n 0 u.0) (eqb-true r q u.1) (as_called s v caller)

      return_supported : (key : ℕ) → Memᴰ key keys → return_supports Z next kept (edge_of key) f n r q ≡ true → Supported p (Marked Z kept) f n r q
      unfolding return_supports
      return_supported key h e =
          let label = (edge_of key).label in
          let from = (edge_of key).routine in
          let source = (edge_of key).source in
          let called = called_by label in
          let returned = return_kept Z next kept (number Z f source r 0) called q in
          let c = cond_true (eqb from f && eqb (edge_of key).target n) (cond (is_call label) returned false) e in
          let d = both (eqb from f) (eqb (edge_of key).target n) c.0 in
          let w = cond_true (is_call label) returned c.1 in
          let x = return_found Z U next kept f source r called q w.1 in
          let s : HasStep p f source (Call called) n =
          rw (← (call_label label w.0), ← (eqb-true from f d.0), ← (eqb-true (edge_of key).target n d.1)) (has_step key h) in
          let v : Moves p x.state (Call called) x.root = sym (move_asked s x.state x.root) ∙ x.gives in
          let v' : Moves p x.exit_state (Return called) q = sym (return_asked s x.exit_state q) ∙ x.returns in
          let caller : Marked Z kept f source r x.state =
          (record { routine = g.routine; node = z.source s; root = g.root; state = x.state_small }, set_byte kept _ x.caller) in
          let exit : Marked Z kept called 1 x.root x.exit_state =
          (record { routine = z.called s; node = omega (arith, U.nodes); root = x.root_small; state = x.exit_small }, set_byte kept _ x.exit) in
          as_returned s caller v exit v'

      action_found : (key : ℕ) → Memᴰ key keys → action_supports Z next kept f n r q (edge_of key) ≡ true → Supported p (Marked Z kept) f n r q
      unfolding action_supports states_to_try
      action_found key h e =
          let label = (edge_of key).label in
          let from = (edge_of key).routine in
          let source = (edge_of key).source in
          let test : ℕ → Bool = λ x. move_kept next kept (number Z f source r 0) x label q in
          let c = tried_states test (eqb from f && eqb (edge_of key).target n) (is_call label) e in
          let d = both (eqb from f) (eqb (edge_of key).target n) c.0 in
          let x = found_from test Z.states 0 c.2 in
          let w = move_found Z U next kept f source r x.at label q x.test in
          let s : HasStep p f source (Action label) n =
          rw (← (action_label label c.1), ← (eqb-true from f d.0), ← (eqb-true (edge_of key).target n d.1)) (has_step key h) in
          let v : Moves p x.at (Action label) q = sym (move_asked s x.at q) ∙ w.1 in
          let from-there : Marked Z kept f source r x.at =
          (record { routine = g.routine; node = z.source s; root = g.root; state = omega (arith, x.below) }, set_byte kept _ w.0) in
          by_edge s v from-there

      pub supports_sound : supports Z keys next kept f n r q ≡ true → Supported p (Marked Z kept) f n r q
      unfolding supports edge_supports call_supports
      supports_sound e =
          let x = found_key (λ key. edge_supports Z next kept f n r q (edge_of key)) keys e in
          let edge = edge_of x.key in
          either (call_supports Z next kept edge f n r q) (action_supports Z next kept f n r q edge) x.test
          (λ c. either (entry_supports Z next kept edge f n r q) (return_supports Z next kept edge f n r q) c
          (entry_found x.key x.member) (return_supported x.key x.member))
          (action_found x.key x.member)

    -- ---- the search finds the support there is

    module _ (kept : List ℕ) where
      by_key : (f n r q key : ℕ) → Memᴰ key keys → edge_supports Z next kept f n r q (edge_of key) ≡ true
          → supports Z keys next kept f n r q ≡ true
      unfolding supports
      by_key f n r q key h e = any-key (λ key. edge_supports Z next kept f n r q (edge_of key)) keys h e

      entry_there : (f n r q key : ℕ) → n ≡ 0 → r ≡ q → (edge_of key).label ≡ call_of f → CallerAt Z U next kept (edge_of key) r
          → edge_supports Z next kept f n r q (edge_of key) ≡ true
      unfolding edge_supports call_supports entry_supports
      entry_there f n r q key a b c h =
          rw (eq-eqb n 0 a, eq-eqb r q b, eq-eqb (edge_of key).label (call_of f) c, caller_there Z U next kept (edge_of key) r h) refl

      return-supports : (f n r q key : ℕ) → (edge_of key).routine ≡ f → (edge_of key).target ≡ n → is_call (edge_of key).label ≡ true
          → ReturnAt Z U next kept f (edge_of key).source r (called_by (edge_of key).label) q
          → edge_supports Z next kept f n r q (edge_of key) ≡ true
      unfolding edge_supports call_supports return_supports
      return-supports f n r q key a b c h =
          let e = return_there Z U next kept f (edge_of key).source r (called_by (edge_of key).label) q h in
          rw (eq-eqb (edge_of key).routine f a, eq-eqb (edge_of key).target n b, c, e, or-true (entry_supports Z next kept (edge_of key) f n r q)) refl

      action_there : (f n r q key x : ℕ) → (edge_of key).routine ≡ f → (edge_of key).target ≡ n → is_call (edge_of key).label ≡ false → x < Z.states
          → is_set kept (number Z f (edge_of key).source r x) ≡ true → bit q (set_at next x (edge_of key).label) ≡ true
          → edge_supports Z next kept f n r q (edge_of key) ≡ true
      unfolding edge_supports action_supports states_to_try
      action_there f n r q key x a b c h on v =
          let source = (edge_of key).source in
          let label = (edge_of key).label in
          let u = move_there Z U next kept f source r x label q on v in
          let e = any-from (λ x. move_kept next kept (number Z f source r 0) x label q) Z.states 0 x (omega arith) (omega arith) u in
          let calls = call_supports Z next kept (edge_of key) f n r q in
          rw (eq-eqb (edge_of key).routine f a, eq-eqb (edge_of key).target n b, c, e, or-true calls) refl

      pub supports_found : {f n r q : ℕ} → InRange Z f n r q → Supported p (Marked Z kept) f n r q → supports Z keys next kept f n r q ≡ true
      supports_found {f} {n} {r} {q} i (by_edge {a = a} {y = y} e v o) =
          let x = keyed e in
          let c = label_action (edge_of x.key).label a x.label in
          by_key f n r q x.key x.member
          (action_there f n r q x.key y x.routine x.target c.0 o.0.state (rw x.source (byte_set kept _ o.1))
          (rw c.1 (move_asked e y q ∙ v)))
      supports_found {f} {n} {r} {q} i (as_called {x = x} {y = y} e v o) =
          let k = keyed e in
          let label = (edge_of k.key).label in
          let c = label_calls label f k.label in
          let high = leb-true first_call label c.0 in
          let is-call : label ≡ call_of f = omega (arith, c.1) in
          let caller : CallerAt Z U next kept (edge_of k.key) r = record {
            state = y;
            state_small = o.0.state;
            gives = rw is-call (move_asked e y r ∙ v);
            root = x;
            root_small = o.0.root;
            caller = rw (k.routine, k.source) (byte_set kept _ o.1);
          } in
          by_key f n r q k.key k.member (entry_there f n r q k.key refl refl is-call caller)
      supports_found {f} {n} {r} {q} i (as_returned {g = g} {y = y} {s = s} {x = x} e o v o' v') =
          let k = keyed e in
          let label = (edge_of k.key).label in
          let c = label_calls label g k.label in
          let here : ReturnAt Z U next kept f (edge_of k.key).source r g q = record {
            routine = omega (arith, o'.0.routine, t.sized.admitted.routines);
            state = y;
            state_small = o.0.state;
            caller = rw k.source (byte_set kept _ o.1);
            root = s;
            root_small = o'.0.root;
            gives = move_asked e y s ∙ v;
            exit_state = x;
            exit_small = o'.0.state;
            exit = byte_set kept _ o'.1;
            returns = return_asked e x q ∙ v';
          } in
          by_key f n r q k.key k.member (return-supports f n r q k.key k.routine k.target c.0 (rw c.1 here))
