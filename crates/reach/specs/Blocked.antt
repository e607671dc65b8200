-- What is meant by runs that are cut off: the automaton does not allow what the program does next. No run goes on there,
-- and what lies behind is not looked at.
use Rattle.std.specs.Prelude.{ℕ, ◌≤◌, ◌<◌, ◌≡◌, List, ◌∷◌, length, get_or}
use Rattle.automaton.specs.declared.Event.{Event}
use Rattle.automaton.specs.declared.Event.TheVariants.{Return}
use Rattle.program.specs.declared.sizes.Sizes.{Sizes}
use Rattle.program.specs.Chosen.{numbers}
use Rattle.program.specs.Program.{Edge, Program}
use Rattle.reach.specs.Configurations.{At, routine_of, node_of, root_of, state_of}
use Rattle.reach.specs.Runs.{event_of, Moves, Activation, Run, Occurs}

-- the automaton allows an event in state q: it may go on to some state
abbrev pub Allows : Program → ℕ → Event → Type 0
Allows p q e = (s : ℕ) × Moves p q e s

-- the edge at a place among the program's, which stand in the order of the file (paper: a step); past the end there is
-- none
abbrev pub edge_at : Program → ℕ → Edge
edge_at p k = get_or p.edges k (record { routine = 0; source = 0; label = 0; target = 0 })

-- the edge at place k leads from node n of routine f, and the automaton does not allow its event in state q
pub record Barred (p : Program) (f n q k : ℕ) : Type 0 where
  pub inside : k < length p.edges
  pub routine : (edge_at p k).routine ≡ f
  pub source : (edge_at p k).source ≡ n
  pub not_allowed : ¬ (Allows p q (event_of (edge_at p k).label))

-- an activation of f with root r, which another one called, is at its exit, and the automaton does not allow the return
-- in state q
pub record Unreturned (p : Program) (f r q : ℕ) : Type 0 where
  pub caller : Activation
  pub below : List Activation
  pub run : Run p f 1 r (caller ∷ below) q
  pub not_allowed : ¬ (Allows p q (Return f))

-- told in the place of an edge where it is the return that is not allowed
abbrev pub no_edge : ℕ
no_edge = 4294967295

-- runs are cut off at the configuration of number i: by an edge, of which the first is told by its place, or by the
-- return
pub data Blocked (Z : Sizes) (p : Program) (i : ℕ) : ℕ → Type 0 where
  by_edge : {k : ℕ} → i < numbers Z → At Z (Occurs p) i → Barred p (routine_of Z i) (node_of Z i) (state_of Z i) k
      → ((j : ℕ) → Barred p (routine_of Z i) (node_of Z i) (state_of Z i) j → k ≤ j) → Blocked Z p i k
  by_return : i < numbers Z → node_of Z i ≡ 1 → Unreturned p (routine_of Z i) (root_of Z i) (state_of Z i)
      → Blocked Z p i no_edge
