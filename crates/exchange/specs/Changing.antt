-- A program after a change.
use Rattle.std.specs.Prelude.{ℕ, cond, List, [], ◌∷◌, eqb, set}
use Rattle.program.specs.Program.{Edge, Program}
use Rattle.edit.specs.Edits.{old_edge}
use Rattle.edit.specs.Editing.{inserted, with_edges, edited_program}
use Rattle.exchange.specs.Changes.{Exchange, Change, step, whole}

-- the edges of every routine but f
unfoldable pub others : ℕ → List Edge → List Edge
others f [] = []
others f (e ∷ es) = cond (eqb e.routine f) (others f es) (e ∷ others f es)

-- with these edges too, each before the first that is above it
unfoldable pub inserted_all : List Edge → List Edge → List Edge
inserted_all [] es = es
inserted_all (d ∷ ds) es = inserted d (inserted_all ds es)

-- the program in which routine f has so many nodes
abbrev pub with_nodes : Program → ℕ → ℕ → Program
with_nodes p f n = record {
  routines = p.routines;
  nodes = set p.nodes f n;
  edges = p.edges;
  automaton = p.automaton;
}

-- the program without any edge of routine f: an exchange drops all old edges together
unfoldable pub emptied : ℕ → Program → Program
emptied f p = with_edges p (others f p.edges)

-- and then adds all new ones together
unfoldable pub exchanged_program : Exchange → Program → Program
exchanged_program x p =
    with_edges (with_nodes p x.routine x.nodes) (inserted_all x.edges (others x.routine p.edges))

-- ---- a change, of either kind

abbrev pub changed_program : Change → Program → Program
changed_program (step e) p = edited_program e p
changed_program (whole x) p = exchanged_program x p

-- the routine that is changed
abbrev pub changed_routine : Change → ℕ
changed_routine (step e) = (old_edge e).routine
changed_routine (whole x) = x.routine
