-- A program that has more steps from some nodes: the marks of the program before are closed but for the configurations at these
-- nodes, and what follows from them is the marks of the program that it has become.
use mathlib.Core.Path.{◌≡◌, sym, subst}
use mathlib.Core.Logic.{◌⊎◌, inl, inr}
use mathlib.Core.Bool.{true}
use mathlib.Core.List.{List, Memᴰ}
use Prim.Native.Nat.{ℕ, ◌+◌, ◌*◌, ◌<◌}
use Rattle.automaton.specs.Automaton.{Automaton, moves}
use Rattle.automaton.specs.declared.Event.{Event}
use Rattle.program.specs.Program.{Program}
use Rattle.reach.specs.Configurations.{InRange, number}
use Rattle.reach.specs.Runs.{HasStep, Moves}
use Rattle.reach.specs.Reachable.{Derivable, seeded, by_action, by_call, by_return, Initial, initial, Any, Reachable, ClosedAt}
use Rattle.reach.specs.Marks.{Marked, Shows, Between, ClosedBut, fresh_at}
use Rattle.reach.proofs.Numbers.{node-span, routine-span}
use Rattle.reach.proofs.ProgramInSizes.{reachable_state}
use Rattle.reach.proofs.ShapeKept.{marks-length, marks_bits}
use Rattle.reach.proofs.LeastSetLaws.{Within, grows, flat}
use Rattle.reach.proofs.AnalysisExact.{analysis_exact}
use Rattle.reach.proofs.MarksShown.{shows_same, one_list, reachable_shown}
use Rattle.program.specs.declared.sizes.Sizes.{Sizes}
use Rattle.reach.specs.Sizes.{node_span, routine_span}
use Rattle.reach.specs.Configurations.{Usable}
use Rattle.reach.specs.Ranged.{Ranged}

-- one node
abbrev pub AtNode : ℕ → ℕ → ℕ → ℕ → Type 0
AtNode f n g k = (g ≡ f) × (k ≡ n)

-- every node of a routine
abbrev pub InRoutine : ℕ → ℕ → ℕ → Type 0
InRoutine f g k = g ≡ f

module _ (Z : Sizes) (U : Usable Z) where
  -- p' has the steps of p, and others only from the nodes of A
  pub record Grown (p p' : Program) (A : ℕ → ℕ → Type 0) : Type 0 where
    pub automaton : p'.automaton ≡ p.automaton
    pub ranged : Ranged Z p
    pub steps : {g k m : ℕ} {l : Event} → HasStep p g k l m → HasStep p' g k l m
    pub only : {g k m : ℕ} {l : Event} → HasStep p' g k l m → HasStep p g k l m ⊎ A g k

  -- the configurations at the nodes of A have numbers from low up to high
  pub record Spanned (A : ℕ → ℕ → Type 0) (low high : ℕ) : Type 0 where
    pub inside : {g k r q : ℕ} → InRange Z g k r q → A g k → Between low high (number Z g k r q)

  pub node_spanned : (f n : ℕ) → Spanned (AtNode f n) (number Z f n 0 0) (number Z f n 0 0 + node_span Z)
  node_spanned f n = record { inside = λ h x. rw (← x.0, ← x.1) (node-span h) }

  pub routine_spanned : (f : ℕ) → Spanned (InRoutine f) (f * routine_span Z) (f * routine_span Z + routine_span Z)
  routine_spanned f = record { inside = λ h x. rw (← x) (routine-span h) }

  module _ (p p' : Program) {A : ℕ → ℕ → Type 0} (c : Grown p p' A) where
    reached : {g k r q : ℕ} → Marked Z (fresh_at Z p) g k r q → Reachable p g k r q
    reached {g} {k} {r} {q} m = (analysis_exact Z U p c.ranged g k r q).0 m

    marked : {g k r q : ℕ} → Reachable p g k r q → Marked Z (fresh_at Z p) g k r q
    marked {g} {k} {r} {q} d = (analysis_exact Z U p c.ranged g k r q).1 d

    old_move : (q : ℕ) (l : Event) (x : ℕ) → Moves p' q l x → Moves p q l x
    old_move q l x v = subst (λ (a : Automaton). moves a q l x ≡ true) c.automaton v

    -- elsewhere p' has the steps of p, and what follows by them is marked
    old-step : {g i m : ℕ} {l : Event} → ¬ (A g i) → HasStep p' g i l m → HasStep p g i l m
    old-step ne e = elim (c.only e) [ inl x ↦ x | inr x ↦ absurd (ne x) ]

    closed : {g i r q : ℕ} → Reachable p g i r q → ¬ (A g i) → ClosedAt p' (Marked Z (fresh_at Z p)) g i r q
    closed d ne =
        record {
          acts = λ e v. marked (by_action d (old-step ne e) (old_move _ _ _ v) tt);
          calls = λ e v. marked (by_call d (old-step ne e) (old_move _ _ _ v) tt);
          returns = λ e v m v'. marked (by_return d (old-step ne e) (old_move _ _ _ v) (reached m) (old_move _ _ _ v') tt);
        }

    pub grown_closed : {low high : ℕ} → Spanned A low high → ClosedBut Z p' low high (fresh_at Z p)
    grown_closed h =
        record {
          marks-length = marks-length Z U p;
          marks_bits = marks_bits Z U p;
          states = λ {q = q} m. subst (λ (a : Automaton). q < a.states) (sym c.automaton) (reachable_state Z U p c.ranged (reached m));
          closed = λ m ne. closed (reached m) (λ a. ne (h.inside m.0 a));
        }

    -- ---- what follows from the marks of p by the steps of p' is what p' reaches

    begun : {g i r q : ℕ} → Initial p' g i r q → Reachable p g i r q
    begun (initial {q} m) = seeded (initial (subst (λ (a : Automaton). Memᴰ q a.initial) c.automaton m)) tt

    still : {g i r q : ℕ} → Reachable p g i r q → Reachable p' g i r q
    still d = grows within (record { at = first }) (record { at = λ x. x }) d
      where
        within : Within p p'
        within = record { steps = c.steps; moves = λ q l x v. subst (λ (a : Automaton). moves a q l x ≡ true) (sym c.automaton) v }

        first : {g i r q : ℕ} → Initial p g i r q → Initial p' g i r q
        first (initial {q} m) = initial (subst (λ (a : Automaton). Memᴰ q a.initial) (sym c.automaton) m)

    pub grown_marks : Ranged Z p' → {marks : List ℕ} → Shows Z (Derivable p' (Marked Z (fresh_at Z p)) Any) marks → marks ≡ fresh_at Z p'
    grown_marks w' s =
        one_list Z U
        (shows_same Z U (record { at = λ d. flat (record { at = λ m. still (reached m) }) d }) (record { at = λ d. flat (record { at = λ x. seeded (marked (begun x)) tt }) d }) s)
        (reachable_shown Z U p' w')
