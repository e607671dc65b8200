-- What the search for where runs are cut off asks of the keys of the edges and of the sets of next states; nothing here
-- has to be believed.
use Rattle.std.specs.Prelude.{ℕ, Bool, ◌&&◌, List, eqb, length, get_or}
use Rattle.automaton.specs.Automaton.{call_of, return_of}
use Rattle.automaton.specs.NextStates.{set_at}
use Rattle.program.specs.Program.{Edge}
use Rattle.program.specs.Decoded.{edge_of}
use Rattle.program.specs.declared.sizes.Sizes.{Sizes}
use Rattle.base.specs.Searches.{seek}
use Rattle.index.specs.Index.{leaves}
use Rattle.base.specs.Searches.{any_from}
use Rattle.kept.specs.Parts.{caller_kept}

-- the set of next states is empty
abbrev pub no_next : List ℕ → ℕ → ℕ → Bool
no_next next q l = eqb (set_at next q l) 0

-- edge i of the table leads from node n of routine f, and its label leads nowhere from state q
abbrev pub bars_key : List ℕ → List ℕ → ℕ → ℕ → ℕ → ℕ → Bool
bars_key keys next f n q i = leaves keys f n i && no_next next q (edge_of (get_or keys i 0)).label

unfoldable pub first_key_of : List ℕ → List ℕ → ℕ → ℕ → ℕ → ℕ
first_key_of keys next f n q = seek (bars_key keys next f n q) (length keys) 0

-- the edge calls g with root s from a marked configuration
unfoldable pub calls_with : Sizes → List ℕ → List ℕ → ℕ → ℕ → Edge → Bool
calls_with z next marks g s e = eqb e.label (call_of g) && caller_kept z next marks e s

-- some edge of the table does
unfoldable pub called_key : Sizes → List ℕ → List ℕ → List ℕ → ℕ → ℕ → Bool
called_key z keys next marks g s = any_from (λ i. calls_with z next marks g s (edge_of (get_or keys i 0))) (length keys) 0

-- from an exit, as one that was called, the return leads nowhere
unfoldable pub no_return_key : Sizes → List ℕ → List ℕ → List ℕ → ℕ → ℕ → ℕ → ℕ → Bool
no_return_key z keys next marks f n r q =
    eqb n 1 && no_next next q (return_of f) && called_key z keys next marks f r
