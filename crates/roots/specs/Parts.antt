-- What the functions over roots promise of each other; nothing here has to be believed.
use Rattle.std.specs.Prelude.{ℕ, cond, ◌&&◌, List, ltb, get_or, set}
use Rattle.automaton.specs.Sizes.{max_states}
use Rattle.automaton.specs.NextStates.{set_at}
use Rattle.base.specs.Bits.{bit}
use Rattle.base.specs.Flags.{is_set}
use Rattle.program.specs.Sizes.{max_routines}
use Rattle.program.specs.Program.{Edge, is_call, called_by}
use Rattle.program.specs.Decoded.{edge_of}
use Rattle.program.specs.declared.sizes.Sizes.{Sizes}
use Rattle.reach.specs.Configurations.{number, routine_of, root_of, root_place}
use Rattle.callgraph.specs.Parts.{Flagged, in_turn, copy_when}

-- the flags of a relation of routines and states
abbrev pub RootFlags : (ℕ → ℕ → Type 0) → List ℕ → Type 0
RootFlags R flags = Flagged root_place max_routines max_states R flags

-- ---- the roots that occur

-- where the flag at `from` is set and state s is one of those after the call's move, s is a root of g
abbrev pub copy_root : ℕ → ℕ → ℕ → ℕ → List ℕ → List ℕ
copy_root after from g s l = copy_when (bit s after) from (root_place g s) l

-- the label a is that of a call, q is the state of a configuration and `from` the place of its root's flag: where this
-- flag is set, every state after the call's move is a root of the called routine
abbrev pub roots_after_call : List ℕ → ℕ → ℕ → ℕ → List ℕ → List ℕ
roots_after_call next from q a l = in_turn (copy_root (set_at next q a) from (called_by a)) max_states 0 l

-- the configuration at the edge's source with root r and state q, where it is marked
unfoldable pub roots_when_marked : Sizes → List ℕ → List ℕ → Edge → ℕ → ℕ → List ℕ → List ℕ
roots_when_marked z marks next e r q l =
    cond (is_set marks (number z e.routine e.source r q))
    (roots_after_call next (root_place e.routine r) q e.label l) l

-- every state with root r
abbrev pub roots_by_root : Sizes → List ℕ → List ℕ → Edge → ℕ → List ℕ → List ℕ
roots_by_root z marks next e r l = in_turn (roots_when_marked z marks next e r) z.states 0 l

-- what an edge that calls adds to the roots that occur
abbrev pub roots_by_call : Sizes → List ℕ → List ℕ → Edge → List ℕ → List ℕ
roots_by_call z marks next e l = in_turn (roots_by_root z marks next e) z.states 0 l

-- what an edge adds to them
unfoldable pub roots_by_edge : Sizes → List ℕ → List ℕ → Edge → List ℕ → List ℕ
roots_by_edge z marks next e l = cond (is_call e.label) (roots_by_call z marks next e l) l

abbrev pub roots_by_edges : Sizes → List ℕ → List ℕ → List ℕ → ℕ → List ℕ → List ℕ
roots_by_edges z marks next keys count l = in_turn (λ i. roots_by_edge z marks next (edge_of (get_or keys i 0))) count 0 l

-- the roots of the main routine in the initial states
abbrev pub roots_of_main : List ℕ → ℕ → List ℕ → List ℕ
roots_of_main list count l = in_turn (λ i. λ l. set l (root_place 0 (get_or list i 0)) 1) count 0 l

-- ---- the cut

-- 1 where a byte and its root's flag are set
abbrev pub kept_byte_of : Sizes → List ℕ → List ℕ → ℕ → ℕ
kept_byte_of z live marks i = cond (is_set marks i && is_set live (root_place (routine_of z i) (root_of z i))) 1 0

-- ---- the roots on marks

-- the byte of an entry with this root; outside the sizes there is none
abbrev pub entry_byte : Sizes → List ℕ → ℕ → ℕ → ℕ
entry_byte z marks f r = cond (ltb f z.routines && ltb r z.states) (get_or marks (number z f 0 r r) 0) 0
