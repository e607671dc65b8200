-- The sizes that a program chooses, and how many configurations have a number in them.
use Rattle.std.specs.Prelude.{ℕ, ◌*◌, ◌≤◌, Bool, cond, List, [], ◌∷◌, leb}
use Rattle.automaton.specs.Sizes.{max_states}
use Rattle.program.specs.Sizes.{max_routines, max_nodes, marks_most}
use Rattle.program.specs.declared.sizes.Sizes.{Sizes}
use Rattle.program.specs.Program.{Program}

-- the largest of some numbers, 0 where there is none
unfoldable pub largest : List ℕ → ℕ
largest [] = 0
largest (n ∷ ns) = cond (leb (largest ns) n) n (largest ns)

-- the sizes of a program: its routines, the largest count of nodes of one of them (paper: P), and its states
abbrev pub sizes_of : Program → Sizes
sizes_of p = record { routines = p.routines; nodes = largest p.nodes; states = p.automaton.states }

-- a byte for each configuration (paper: the sheet): so many have a number
unfoldable pub numbers : Sizes → ℕ
numbers z = z.routines * z.nodes * z.states * z.states

-- a product of at most 16,384 (paper: else 23)
abbrev pub sizes_fit : Program → Bool
sizes_fit p = leb (numbers (sizes_of p)) marks_most

-- the sizes that the tables and buffers of the code have room for
pub record Admitted (z : Sizes) : Type 0 where
  pub routines : z.routines ≤ max_routines
  pub nodes : z.nodes ≤ max_nodes
  pub states : z.states ≤ max_states
  pub product : numbers z ≤ marks_most
