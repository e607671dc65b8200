-- An index of a table of edges: chained lists of the edges from each node, and of those that call each routine.
use Rattle.std.specs.Prelude.{ℕ, ◌+◌, ◌-◌, ◌*◌, ◌≤◌, ◌<◌, ◌≡◌, Bool, true, ◌&&◌, List, eqb, length, get_or}
use Rattle.base.specs.Searches.{seek}
use Rattle.program.specs.Sizes.{max_routines, max_nodes, max_edges}
use Rattle.program.specs.Program.{is_call, called_by}
use Rattle.program.specs.Decoded.{edge_of}

-- edge i of the table leads from node n of routine f
abbrev pub leaves : List ℕ → ℕ → ℕ → ℕ → Bool
leaves keys f n i = eqb (edge_of (get_or keys i 0)).routine f && eqb (edge_of (get_or keys i 0)).source n

-- edge i of the table calls routine g
abbrev pub calls_one : List ℕ → ℕ → ℕ → Bool
calls_one keys g i = is_call (edge_of (get_or keys i 0)).label && eqb (called_by (edge_of (get_or keys i 0)).label) g

-- ---- where the parts begin: the first edges from each node are at the start

abbrev pub first_callers : ℕ
first_callers = max_routines * max_nodes

abbrev pub next_edges : ℕ
next_edges = first_callers + max_routines

abbrev pub next_callers : ℕ
next_callers = next_edges + max_edges

abbrev pub index_size : ℕ
index_size = next_callers + max_edges

-- the place of the first edge from node n of routine f
abbrev pub node_place : ℕ → ℕ → ℕ
node_place f n = f * max_nodes + n

-- the place of the first edge that calls routine g
abbrev pub routine_place : ℕ → ℕ
routine_place g = first_callers + g

-- the place of the next edge after edge i from the same node
abbrev pub edge_place : ℕ → ℕ
edge_place i = next_edges + i

-- the place of the next edge after edge i that calls the same routine
abbrev pub caller_place : ℕ → ℕ
caller_place i = next_callers + i

-- the index is that of these edges
pub record Indexed (keys index : List ℕ) : Type 0 where
  pub size : length index ≡ index_size
  pub few : length keys ≤ max_edges
  pub first_edge : (f n : ℕ) → f < max_routines → n < max_nodes
      → get_or index (node_place f n) 0 ≡ seek (leaves keys f n) (length keys) 0
  pub next_edge : (f n i : ℕ) → f < max_routines → n < max_nodes → i < length keys → leaves keys f n i ≡ true
      → get_or index (edge_place i) 0 ≡ seek (leaves keys f n) (length keys - (i + 1)) (i + 1)
  pub first_caller : (g : ℕ) → g < max_routines
      → get_or index (routine_place g) 0 ≡ seek (calls_one keys g) (length keys) 0
  pub next_caller : (g i : ℕ) → g < max_routines → i < length keys → calls_one keys g i ≡ true
      → get_or index (caller_place i) 0 ≡ seek (calls_one keys g) (length keys - (i + 1)) (i + 1)
