-- Runs of a program: a stack of activations, each with its root (section 2 of the article by Conway, Namjoshi, Dams and
-- Edwards).
use Rattle.std.specs.Prelude.{ℕ, ◌≡◌, true, cond}
use mathlib.Core.List.{List, [], ◌∷◌, map, Memᴰ}
use Rattle.automaton.specs.Automaton.{moves}
use Rattle.automaton.specs.declared.Event.{Event}
use Rattle.automaton.specs.declared.Event.TheVariants.{Action, Call, Return}
use Rattle.program.specs.Program.{Edge, Program, is_action, called_by}

-- the event of an edge, by its label
abbrev pub event_of : ℕ → Event
event_of a = cond (is_action a) (Action a) (Call (called_by a))

pub record Step : Type 0 where
  pub routine : ℕ
  pub source : ℕ
  pub label : Event
  pub target : ℕ

abbrev pub step_of : Edge → Step
step_of e = record { routine = e.routine; source = e.source; label = event_of e.label; target = e.target }

abbrev pub steps_of : Program → List Step
steps_of p = map step_of p.edges

-- routine f has an edge from n to m by this event
abbrev pub HasStep : Program → ℕ → ℕ → Event → ℕ → Type 0
HasStep p f n l m = Memᴰ (record { routine = f; source = n; label = l; target = m }) (steps_of p)

-- the automaton may go from q to s by this event
abbrev pub Moves : Program → ℕ → Event → ℕ → Type 0
Moves p q e s = moves p.automaton q e s ≡ true

-- a suspended activation: the one that it called has not returned: its routine, the node to go on at, its root
pub record Activation : Type 0 where
  pub routine : ℕ
  pub node : ℕ
  pub root : ℕ

-- a run that has arrived at node n of an activation of f with root r, over the activations k, the automaton in state q:
-- it begins at the main routine's entry in an initial state, and goes on by an action, by a call, whose activation has
-- as its root the state after the call's move, or by a return to the activation that made the call
pub data Run (p : Program) : ℕ → ℕ → ℕ → List Activation → ℕ → Type 0 where
  begin : {q : ℕ} → Memᴰ q p.automaton.initial → Run p 0 0 q [] q
  act : {f n r : ℕ} {k : List Activation} {q a m s : ℕ} → Run p f n r k q → HasStep p f n (Action a) m
      → Moves p q (Action a) s
      → Run p f m r k s
  enter : {f n r : ℕ} {k : List Activation} {q g m s : ℕ} → Run p f n r k q → HasStep p f n (Call g) m
      → Moves p q (Call g) s
      → Run p g 0 s (record { routine = f; node = m; root = r } ∷ k) s
  leave : {g r f m s : ℕ} {k : List Activation} {q t : ℕ}
      → Run p g 1 r (record { routine = f; node = m; root = s } ∷ k) q
      → Moves p q (Return g) t → Run p f m s k t

-- some run arrives there
pub record Occurs (p : Program) (f n r q : ℕ) : Type 0 where
  pub below : List Activation
  pub run : Run p f n r below q
