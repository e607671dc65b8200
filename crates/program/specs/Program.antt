-- A measuring program, as lists.
use Rattle.std.specs.Prelude.{ℕ, ◌-◌, Bool, ◌&&◌, not, List, [], ltb, leb, eqb, get_or}
use Rattle.automaton.specs.Sizes.{max_states, max_actions, first_call}
use Rattle.automaton.specs.Automaton.{Transition, Automaton, label_fits, event_fits}
use Rattle.program.specs.Sizes.{max_routines, max_nodes}

-- an edge leads from one node of a routine to another (paper: a step from place to place);
-- its label is the number of an action, or 40 + f (hexadecimal) for a call of routine f
pub record Edge : Type 0 where
  pub routine : ℕ
  pub source : ℕ
  pub label : ℕ
  pub target : ℕ

-- routine 0 is the main routine; `nodes` has the count of nodes of each routine; node 0 is the entry, node 1 the exit
pub record Program : Type 0 where
  pub routines : ℕ
  pub nodes : List ℕ
  pub edges : List Edge
  pub automaton : Automaton

-- nothing is known of the program yet
abbrev pub no_program : Program
no_program =
    record {
      routines = 0;
      nodes = [];
      edges = [];
      automaton = record { states = 0; actions = 0; transitions = []; initial = []; rejecting = [] };
    }

-- ---- labels of edges: the number of an action, or 40 + f (hexadecimal) for a call of routine f

abbrev pub is_action : ℕ → Bool
is_action a = ltb a first_call

abbrev pub is_call : ℕ → Bool
is_call a = leb first_call a

-- the routine that the label of a call calls
abbrev pub called_by : ℕ → ℕ
called_by a = a - first_call

-- ---- ranges

abbrev pub within : ℕ → ℕ → ℕ → Bool
within lo hi x = leb lo x && leb x hi

-- routines, states and actions
abbrev pub counts_fit : ℕ → ℕ → ℕ → Bool
counts_fit r q a = within 1 max_routines r && within 1 max_states q && within 1 max_actions a

-- how many nodes a routine may have: an entry and an exit at least
abbrev pub nodes_fit : ℕ → Bool
nodes_fit n = within 2 max_nodes n

-- an edge of a routine that has so many nodes; no edge leaves the exit
abbrev pub placed : ℕ → ℕ → ℕ → Bool
placed nodes n m = ltb n nodes && ltb m nodes && not (eqb n 1)

abbrev pub edge_fits : Program → Edge → Bool
edge_fits p e =
    ltb e.routine p.routines && placed (get_or p.nodes e.routine 0) e.source e.target
    && label_fits p.routines p.automaton.actions e.label

abbrev pub transition_fits : Program → Transition → Bool
transition_fits p t =
    ltb t.before p.automaton.states && event_fits p.routines p.automaton.actions t.label
    && ltb t.after p.automaton.states
