-- Where marks say that runs are cut off, worked out configuration by configuration.
use Rattle.std.specs.Prelude.{ℕ, ◌-◌, Bool, cond, ◌&&◌, ◌||◌, not, List, eqb, ltb, length}
use Rattle.std.proofs.Math.Option.{Option, none, some}
use Rattle.base.specs.Flags.{is_set}
use Rattle.base.specs.Searches.{seek, any_from}
use Rattle.automaton.specs.Automaton.{Automaton, call_of, moves}
use Rattle.automaton.specs.declared.Event.{Event}
use Rattle.automaton.specs.declared.Event.TheVariants.{Call, Return}
use Rattle.program.specs.declared.sizes.Sizes.{Sizes}
use Rattle.program.specs.Chosen.{sizes_of, numbers}
use Rattle.program.specs.Program.{Edge, Program}
use Rattle.reach.specs.Configurations.{number, routine_of, node_of, root_of, state_of}
use Rattle.reach.specs.Runs.{event_of}
use Rattle.reach.specs.Marks.{fresh_marks}
use Rattle.reach.specs.Blocked.{edge_at, no_edge}

-- ---- at one configuration

-- some state follows
abbrev pub allows : Automaton → ℕ → Event → Bool
allows r q e = any_from (moves r q e) r.states 0

-- the edge at place k leads from node n of routine f, and its event is not allowed in state q
abbrev pub bars : Program → ℕ → ℕ → ℕ → ℕ → Bool
bars p f n q k =
    eqb (edge_at p k).routine f && eqb (edge_at p k).source n
    && not (allows p.automaton q (event_of (edge_at p k).label))

-- the place of the first edge from the configuration of number i that is not allowed; past the edges where each is
unfoldable pub first_barred : Sizes → Program → ℕ → ℕ
first_barred Z p i = seek (bars p (routine_of Z i) (node_of Z i) (state_of Z i)) (length p.edges) 0

abbrev pub any_barred : Sizes → Program → ℕ → Bool
any_barred Z p i = ltb (first_barred Z p i) (length p.edges)

-- the edge calls g with root s from some marked configuration: with any root r and in any state q
abbrev pub calls_from : Sizes → Program → List ℕ → ℕ → ℕ → Edge → Bool
calls_from Z p marks g s e =
    eqb e.label (call_of g)
    && any_from (λ r. any_from (λ q. is_set marks (number Z e.routine e.source r q)
    && moves p.automaton q (Call g) s) Z.states 0) Z.states 0

-- some edge does
unfoldable pub is_called : Sizes → Program → List ℕ → ℕ → ℕ → Bool
is_called Z p marks g s = any_from (λ k. calls_from Z p marks g s (edge_at p k)) (length p.edges) 0

-- the return from an exit, as one that was called, is not allowed
unfoldable pub no_return : Sizes → Program → List ℕ → ℕ → Bool
no_return Z p marks i =
    eqb (node_of Z i) 1 && not (allows p.automaton (state_of Z i) (Return (routine_of Z i)))
    && is_called Z p marks (routine_of Z i) (root_of Z i)

unfoldable pub is_blocked : Sizes → Program → List ℕ → ℕ → Bool
is_blocked Z p marks i = is_set marks i && (any_barred Z p i || no_return Z p marks i)

-- the place of the edge that is told
unfoldable pub blocked_by : Sizes → Program → ℕ → ℕ
blocked_by Z p i = cond (any_barred Z p i) (first_barred Z p i) no_edge

-- ---- the next one

pub record Block : Type 0 where
  pub number : ℕ
  pub edge : ℕ

-- what a search for the first number gives, with the place of an edge: a number past the end says that nothing was found
abbrev pub block_in : Sizes → ℕ → ℕ → Option Block
block_in Z i k = cond (ltb i (numbers Z)) (some (record { number = i; edge = k })) none

-- the first number from low on where these marks say that runs are cut off
unfoldable pub block_from : Sizes → Program → List ℕ → ℕ → Option Block
block_from Z p marks low =
    let i = seek (is_blocked Z p marks) (numbers Z - low) low in
    block_in Z i (blocked_by Z p i)

-- where the program's own marks say it
abbrev pub next_block : Program → ℕ → Option Block
next_block p low = block_from (sizes_of p) p (fresh_marks p) low
