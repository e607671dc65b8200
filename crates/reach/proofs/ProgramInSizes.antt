-- What a well-formed program keeps within the sizes.
use mathlib.Core.Path.{◌≡◌, refl, sym, subst}
use mathlib.Core.Logic.{◌≢◌}
use mathlib.Core.Bool.{Bool, true, false, cond, ◌&&◌, not}
use mathlib.Core.List.{List, [], ◌∷◌, map, Memᴰ}
use Prim.Native.Nat.{ℕ, ◌+◌, ◌*◌, ◌-◌, ◌≤◌, ◌<◌}
use native.Mathlib.Omega.{arith}
use native.Mathlib.Nat.{le_refl, mul-le-mul}
use lib.Dec.{ltb, leb, eqb}
use lib.ListN.{get_or}
use borrow.Author.Tests.{ltb-true, ltb-false, leb-true, eqb-true, eqb-false, not-true}
use Rattle.automaton.specs.Sizes.{max_states, max_actions}
use Rattle.automaton.specs.Automaton.{listed, heard, stays, moves, call_of, return_of, label_fits}
use Rattle.automaton.proofs.EventsHeard.{listed_in}
use Rattle.automaton.specs.declared.Event.{Event}
use Rattle.automaton.specs.declared.Event.TheVariants.{Action, Call, Return}
use Rattle.program.specs.Sizes.{max_routines, max_nodes}
use Rattle.program.specs.declared.sizes.Sizes.{Sizes}
use Rattle.program.specs.Program.{Edge, Program, within, nodes_fit, placed, edge_fits, transition_fits}
use Rattle.program.specs.Chosen.{largest, sizes_of, Admitted}
use Rattle.program.proofs.ChosenSizes.{admitted, largest_at}
use Rattle.program.specs.WellFormed.{WellFormed}
use Rattle.program.proofs.SectionsAscend.{all_at, all_in}
use Rattle.base.proofs.Bools.{both, either}
use Rattle.program.proofs.ProgramLimits.{transition-fits, well_formed_limits}
use Rattle.reach.specs.Configurations.{Set, Usable, InRange}
use Rattle.reach.specs.Sizes.{summaries}
use Rattle.reach.specs.Ranged.{Ranged, Sized}
use Rattle.reach.specs.Runs.{Step, event_of, step_of, HasStep, Moves}
use Rattle.reach.specs.Reachable.{Derivable, seeded, by_action, by_call, by_return, Initial, initial, Reachable}

-- ---- the steps

pub record Mapped {A B : Type 0} (f : A → B) (xs : List A) (y : B) : Type 0 where
  pub from : A
  pub member : Memᴰ from xs
  pub is : y ≡ f from

pub map_in : {A B : Type 0} (f : A → B) {y : B} (xs : List A) → Memᴰ y (map f xs) → Mapped f xs y
map_in f [] m = elim m [ ]
map_in f (x ∷ xs) (Memᴰ.head e) = record { from = x; member = Memᴰ.head refl; is = e }
map_in f (x ∷ xs) (Memᴰ.tail m) = let z = map_in f xs m in record { from = z.from; member = Memᴰ.tail z.member; is = z.is }

-- a label that is a call
pub label_call : (a g : ℕ) (t : Bool) → cond t (Action a) (Call (a - 0x40)) ≡ Call g → (t ≡ false) × (a - 0x40 ≡ g)
label_call a g true e = absurd (let z : ◌≡◌ {A = ℕ} 0 1 = cc in omega arith)
label_call a g false e = (refl, cc)

pub after_small : {Z : Sizes} {p : Program} → Ranged Z p → (q : ℕ) (e : Event) (s : ℕ) → Moves p q e s → s < Z.states
after_small z q e s m = omega (arith, z.states, z.after q e s m)

-- ---- a well-formed program is within its own sizes

at_least : (lo hi x : ℕ) → within lo hi x ≡ true → lo ≤ x
at_least lo hi x h = leb-true lo x (both (leb lo x) (leb x hi) h).0

-- one routine, an entry, an exit and a state
module _ (p : Program) (w : WellFormed p) where
  fit : (within 1 max_routines p.routines && within 1 max_states p.automaton.states ≡ true) × (within 1 max_actions p.automaton.actions ≡ true)
  fit = both (within 1 max_routines p.routines && within 1 max_states p.automaton.states) (within 1 max_actions p.automaton.actions) w.counts-fit

  some_routine : 1 ≤ p.routines
  some_routine = at_least 1 max_routines p.routines (both (within 1 max_routines p.routines) _ fit.0).0

  pub usable : Usable (sizes_of p)
  usable =
      let n = some_routine in
      let first = at_least 2 max_nodes (get_or p.nodes 0 0) (all_at nodes_fit p.nodes 0 0 w.nodes-fit (omega (arith, w.complete))) in
      record {
        nodes = omega (arith, first, largest_at p.nodes 0);
        states = at_least 1 max_states p.automaton.states (both (within 1 max_routines p.routines) _ fit.0).1;
      }

-- the facts of a step's edge
record Edged (p : Program) (f n : ℕ) (l : Event) (m : ℕ) : Type 0 where
  label : ℕ
  is : l ≡ event_of label
  routine : f < p.routines
  source : n < largest p.nodes
  target : m < largest p.nodes
  no_exit : n ≢ 1
  small : 0x40 ≤ label → label < 0x40 + p.routines

edge-fits : (p : Program) → WellFormed p → (e : Edge) → edge_fits p e ≡ true → Edged p e.routine e.source (event_of e.label) e.target
edge-fits p w e h =
    let f = e.routine in let n = e.source in let m = e.target in let a = e.label in
    let ns = get_or p.nodes f 0 in
    let limits = well_formed_limits p w in
    let c = both (ltb f p.routines && placed ns n m) (label_fits p.routines p.automaton.actions a) h in
    let d = both (ltb f p.routines) (placed ns n m) c.0 in
    let x = both (ltb n ns && ltb m ns) (not (eqb n 1)) d.1 in
    let y = both (ltb n ns) (ltb m ns) x.0 in
    let many = largest_at p.nodes f in
    let hn = ltb-true n ns y.0 in
    let hm = ltb-true m ns y.1 in
    record {
      label = a;
      is = refl;
      routine = ltb-true f p.routines d.0;
      source = omega arith;
      target = omega arith;
      no_exit = eqb-false n 1 (not-true (eqb n 1) x.1);
      small = either (ltb a p.automaton.actions) (leb 0x40 a && ltb a (0x40 + p.routines)) c.1
          (λ z. let u = ltb-true a p.automaton.actions z in λ v. omega arith)
          (λ z. let u = ltb-true a (0x40 + p.routines) (both (leb 0x40 a) (ltb a (0x40 + p.routines)) z).1 in λ v. u);
    }

edged : (p : Program) → WellFormed p → {f n m : ℕ} {l : Event} → HasStep p f n l m → Edged p f n l m
edged p w h =
    let z = map_in step_of p.edges h in
    subst (λ (x : Step). Edged p x.routine x.source x.label x.target) (sym z.is)
    (edge-fits p w z.from (all_in (edge_fits p) p.edges w.edges_fit z.member))

-- a move leads to a state of the automaton
module _ (p : Program) (w : WellFormed p) where
  listed_after : (q l s : ℕ) → listed q l s p.automaton.transitions ≡ true → s < p.automaton.states
  listed_after q l s h =
      let ts = p.automaton.transitions in
      (transition-fits p _ (all_in (transition_fits p) ts w.transitions_fit (listed_in q l s ts h))).2

  label_after : (b : Bool) (q l s : ℕ) → cond b (listed q l s p.automaton.transitions) (stays p.automaton q s) ≡ true
      → s < p.automaton.states
  label_after true q l s h = listed_after q l s h
  label_after false q l s h =
      let c = both (ltb q p.automaton.states) (eqb q s) h in
      omega (arith, ltb-true q p.automaton.states c.0, eqb-true q s c.1)

  move_after : (q : ℕ) (e : Event) (s : ℕ) → Moves p q e s → s < p.automaton.states
  unfolding moves
  move_after q (Action a) s h = listed_after q a s h
  move_after q (Call f) s h = label_after (heard (call_of f) p.automaton.transitions) q (call_of f) s h
  move_after q (Return f) s h = label_after (heard (return_of f) p.automaton.transitions) q (return_of f) s h

pub ranged : (p : Program) → WellFormed p → Ranged (sizes_of p) p
ranged p w =
    record {
      main = some_routine p w;
      routines = le_refl _;
      routine = λ h. (edged p w h).routine;
      source = λ h. (edged p w h).source;
      target = λ h. (edged p w h).target;
      called = λ {g = g} h.
          let e = edged p w h in
          let c = label_call e.label g (ltb e.label 0x40) (sym e.is) in
          let small = e.small (ltb-false e.label 0x40 c.0) in
          omega (arith, c.1);
      no_exit = λ h. (edged p w h).no_exit;
      states = le_refl _;
      after = move_after p w;
      begun = λ {q} m. ltb-true q p.automaton.states (all_in (λ q. ltb q p.automaton.states) p.automaton.initial w.initial_fit m);
    }

-- the code has room for it
pub summaries_few : {Z : Sizes} → Admitted Z → summaries Z ≤ 4096
unfolding summaries
summaries_few {Z} a =
    let h = mul-le-mul {n₁ = Z.routines * Z.states} {m₁ = Z.states} {n₂ = max_routines * max_states} {m₂ = max_states}
    (mul-le-mul {n₁ = Z.routines} {m₁ = Z.states} {n₂ = max_routines} {m₂ = max_states} a.routines a.states) a.states in
    omega arith

pub sized : (p : Program) → WellFormed p → Sized (sizes_of p) p
sized p w = record { usable = usable p w; admitted = admitted p w; ranged = ranged p w }

-- ---- the derivable configurations are in range

-- seeds in range, in states of the automaton
pub record Proper (Z : Sizes) (p : Program) (S : Set) : Type 0 where
  pub in_range : {f n r q : ℕ} → S f n r q → InRange Z f n r q
  pub state : {f n r q : ℕ} → S f n r q → q < p.automaton.states

module _ (Z : Sizes) (U : Usable Z) where
  pub initial_proper : (p : Program) → Ranged Z p → Proper Z p (Initial p)
  initial_proper p z = record { in_range = in_range; state = state }
    where
      in_range : {f n r q : ℕ} → Initial p f n r q → InRange Z f n r q
      in_range (initial m) =
          let a = z.begun m in
          let b = z.states in
          record { routine = z.main; node = omega (arith, U.nodes); root = omega arith; state = omega arith }

      state : {f n r q : ℕ} → Initial p f n r q → q < p.automaton.states
      state (initial m) = z.begun m

  module _ {p : Program} {S W : Set} (z : Ranged Z p) (h : Proper Z p S) where
    pub derivable_state : {f n r q : ℕ} → Derivable p S W f n r q → q < p.automaton.states
    derivable_state (seeded x w) = h.state x
    derivable_state (by_action d e m w) = z.after _ _ _ m
    derivable_state (by_call d e m w) = z.after _ _ _ m
    derivable_state (by_return d e m d' m' w) = z.after _ _ _ m'

    pub derivable_in_range : {f n r q : ℕ} → Derivable p S W f n r q → InRange Z f n r q
    derivable_in_range (seeded x w) = h.in_range x
    derivable_in_range (by_action d e m w) =
        let c = derivable_in_range d in
        record { routine = c.routine; node = z.target e; root = c.root; state = after_small z _ _ _ m }
    derivable_in_range (by_call d e m w) =
        record { routine = z.called e; node = omega (arith, U.nodes); root = after_small z _ _ _ m; state = after_small z _ _ _ m }
    derivable_in_range (by_return d e m d' m' w) =
        let c = derivable_in_range d in
        record { routine = c.routine; node = z.target e; root = c.root; state = after_small z _ _ _ m' }

  -- every reachable configuration is in range, its root and state are states of the automaton
  module _ (p : Program) (w : Ranged Z p) where
    pub reachable_in_range : {f n r q : ℕ} → Reachable p f n r q → InRange Z f n r q
    reachable_in_range d = derivable_in_range w (initial_proper p w) d

    pub reachable_state : {f n r q : ℕ} → Reachable p f n r q → q < p.automaton.states
    reachable_state d = derivable_state w (initial_proper p w) d

    pub reachable_root : {f n r q : ℕ} → Reachable p f n r q → r < p.automaton.states
    reachable_root (seeded (initial m) x) = w.begun m
    reachable_root (by_action d e m x) = reachable_root d
    reachable_root (by_call d e m x) = w.after _ _ _ m
    reachable_root (by_return d e m d' m' x) = reachable_root d
