-- What the functions that make the index promise of each other; nothing here has to be believed.
use Rattle.std.specs.Prelude.{ℕ, cond, ◌&&◌, List, ltb, get_or, set}
use Rattle.program.specs.Sizes.{max_routines, max_nodes}
use Rattle.program.specs.Program.{Edge, is_call, called_by}
use Rattle.index.specs.Index.{node_place, routine_place, edge_place, caller_place}

-- edge i goes before the first of a list
unfoldable pub linked : ℕ → ℕ → ℕ → List ℕ → List ℕ
linked first next i l = set (set l next (get_or l first 0)) first i

-- edge i, which leads from node n of routine f
unfoldable pub with_edge : ℕ → ℕ → ℕ → List ℕ → List ℕ
with_edge f n i l = cond (ltb f max_routines && ltb n max_nodes) (linked (node_place f n) (edge_place i) i l) l

-- edge i, which has this label
unfoldable pub with_caller : ℕ → ℕ → List ℕ → List ℕ
with_caller a i l =
    cond (is_call a && ltb (called_by a) max_routines) (linked (routine_place (called_by a)) (caller_place i) i l) l

-- edge i, which is this one
unfoldable pub with_key : Edge → ℕ → List ℕ → List ℕ
with_key e i l = with_caller e.label i (with_edge e.routine e.source i l)
