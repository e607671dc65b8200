-- The automaton's transitions as a table that people fill in: rows, the pairs of a state and an action that they meet,
-- and the transitions that they stand for.
use Rattle.std.specs.Prelude.{ℕ, zero, suc, ◌+◌, ◌*◌, ◌/◌, ◌%◌, ◌^◌, Bool, cond, ◌&&◌, List, [], ◌∷◌, map, ltb, eqb}
use Rattle.base.specs.Bits.{bit}
use Rattle.automaton.specs.Automaton.{Transition, Automaton}

-- how many rows a table has at most
abbrev pub max_rows : ℕ
max_rows = 256

-- a row (paper: a frame 55): the states and the actions that it is for, a bit each, and the next state
pub record TableRow : Type 0 where
  pub states : ℕ
  pub actions : ℕ
  pub next : ℕ

-- ---- bits

-- no bit at or above n is set
abbrev pub no_bit_from : ℕ → ℕ → Bool
no_bit_from n bits = eqb (bits / 2 ^ n) 0

-- no state bit is at or above the count of states, no action bit at or above that of actions, and the next state is
-- below the count of states
abbrev pub row_fits : Automaton → TableRow → Bool
row_fits a r = no_bit_from a.states r.states && no_bit_from a.actions r.actions && ltb r.next a.states

-- ---- pairs

-- a state and an action
pub record Pair : Type 0 where
  pub state : ℕ
  pub action : ℕ

-- what is told where there is none
abbrev pub no_pair : Pair
no_pair = record { state = 0; action = 0 }

-- the i-th pair, by state and then by action, where there are so many actions
abbrev pub pair_at : ℕ → ℕ → Pair
pair_at actions i = record { state = i / actions; action = i % actions }

-- n pairs, from the i-th on
unfoldable pub pairs_from : ℕ → ℕ → ℕ → List Pair
pairs_from actions zero i = []
pairs_from actions (suc n) i = pair_at actions i ∷ pairs_from actions n (i + 1)

-- the pairs of each state and each action
abbrev pub pairs : ℕ → ℕ → List Pair
pairs states actions = pairs_from actions (states * actions) 0

-- ---- what a table says of a pair

-- a row meets a pair that it has both bits of
abbrev pub meets : Pair → TableRow → Bool
meets p r = bit p.state r.states && bit p.action r.actions

-- how many rows meet a pair
unfoldable pub times_met : Pair → List TableRow → ℕ
times_met p [] = 0
times_met p (r ∷ rs) = cond (meets p r) 1 0 + times_met p rs

-- 19 for a pair that no row meets, 20 for one that is met twice (or more often), else 0
abbrev pub pair_refusal : ℕ → ℕ
pair_refusal zero = 19
pair_refusal (suc zero) = 0
pair_refusal (suc (suc n)) = 20

-- the first faulty pair decides
unfoldable pub table_refusal : List TableRow → List Pair → ℕ
table_refusal rs [] = 0
table_refusal rs (p ∷ ps) =
    cond (eqb (pair_refusal (times_met p rs)) 0) (table_refusal rs ps) (pair_refusal (times_met p rs))

-- that pair; state 0 and action 0 where none is faulty
unfoldable pub faulty_pair : List TableRow → List Pair → Pair
faulty_pair rs [] = no_pair
faulty_pair rs (p ∷ ps) = cond (eqb (pair_refusal (times_met p rs)) 0) (faulty_pair rs ps) p

-- ---- the transitions of a table

-- the next state that the first row that meets a pair says; 0 where none does
unfoldable pub next_state : Pair → List TableRow → ℕ
next_state p [] = 0
next_state p (r ∷ rs) = cond (meets p r) r.next (next_state p rs)

-- a pair's transition
abbrev pub transition_for : List TableRow → Pair → Transition
transition_for rs p = record { before = p.state; label = p.action; after = next_state p rs }

-- one transition for each pair
abbrev pub table_transitions : List TableRow → List Pair → List Transition
table_transitions rs ps = map (transition_for rs) ps
