-- Configurations and their numbers (paper: standings). A configuration (f, n, r, q) is a routine, one of its nodes, the
-- root and the present state of the automaton.
use Rattle.std.specs.Prelude.{ℕ, ◌+◌, ◌*◌, ◌/◌, ◌%◌, ◌^◌, ◌<◌, ◌≤◌, ◌≡◌, List, replicate}
use Rattle.automaton.specs.Sizes.{max_states}
use Rattle.program.specs.declared.sizes.Sizes.{Sizes}
use Rattle.program.specs.Chosen.{numbers}

-- a set of configurations
abbrev pub Set : Type 1
Set = ℕ → ℕ → ℕ → ℕ → Type 0

-- one set of configurations is a part of another
pub record Sub (A B : Set) : Type 0 where
  pub at : {f n r q : ℕ} → A f n r q → B f n r q

-- there is an entry and an exit, and a state
pub record Usable (Z : Sizes) : Type 0 where
  pub nodes : 2 ≤ Z.nodes
  pub states : 1 ≤ Z.states

-- one configuration before another: compared left to right
pub data Earlier (f n r q g m s t : ℕ) : Type 0 where
  by_routine : f < g → Earlier f n r q g m s t
  by_node : f ≡ g → n < m → Earlier f n r q g m s t
  by_root : f ≡ g → n ≡ m → r < s → Earlier f n r q g m s t
  by_state : f ≡ g → n ≡ m → r ≡ s → q < t → Earlier f n r q g m s t

module _ (Z : Sizes) where
  -- so many routines, nodes a routine and states there are
  pub record InRange (f n r q : ℕ) : Type 0 where
    pub routine : f < Z.routines
    pub node : n < Z.nodes
    pub root : r < Z.states
    pub state : q < Z.states

  unfoldable pub number : ℕ → ℕ → ℕ → ℕ → ℕ
  number f n r q = ((f * Z.nodes + n) * Z.states + r) * Z.states + q

  -- the configuration that has a number
  unfoldable pub routine_of : ℕ → ℕ
  routine_of i = i / Z.states / Z.states / Z.nodes

  unfoldable pub node_of : ℕ → ℕ
  node_of i = i / Z.states / Z.states % Z.nodes

  unfoldable pub root_of : ℕ → ℕ
  root_of i = i / Z.states % Z.states

  unfoldable pub state_of : ℕ → ℕ
  state_of i = i % Z.states

  -- the configuration of number j is in S
  abbrev pub At : Set → ℕ → Type 0
  At S j = S (routine_of j) (node_of j) (root_of j) (state_of j)

  -- a byte for each number, none of them set
  unfoldable pub none_set : List ℕ
  none_set = replicate (numbers Z) 0

  -- ---- what the code that computes numbers promises

  -- these are the parts of number i
  pub record PartsOf (i f n r q : ℕ) : Type 0 where
    pub in_range : InRange f n r q
    pub is : number f n r q ≡ i

-- a number whose parts are bytes is below this one
abbrev pub byte_numbers : ℕ
byte_numbers = 2 ^ 32

-- the number of the exit that has its summary at this place
unfoldable pub exit_at : Sizes → ℕ → ℕ
exit_at Z place = number Z (place / Z.states / Z.states) 1 (place / Z.states % Z.states) (place % Z.states)

-- the place of a root's flag, whatever the sizes
unfoldable pub root_place : ℕ → ℕ → ℕ
root_place f r = f * max_states + r

-- the number of the entry whose root has its flag at this place
unfoldable pub entry_at : Sizes → ℕ → ℕ
entry_at Z place = number Z (place / max_states) 0 (place % max_states) (place % max_states)
