-- The rows as they are kept by value, and the rows that they stand for.
use Rattle.std.specs.Prelude.{ℕ, ◌/◌, ◌%◌, ◌≡◌, List, map, take, Result, Ok, Err, IfOk}
use Rattle.automaton.specs.Decoded.{transition_keys_of, transition_of}
use Rattle.rows.specs.Rows.{TableRow, Pair, no_pair, table_refusal, faulty_pair, table_transitions}
use Rattle.rows.specs.declared.Rows.{Rows}
use Rattle.rows.specs.declared.FaultyPair.{FaultyPair}
use Rattle.rows.specs.declared.TableFault.{TableFault}
use Rattle.rows.specs.declared.TableFault.TheVariants.{NotMet, MetTwice}
use Rattle.automaton.specs.declared.transitions.Transitions.{Transitions}

-- a row is kept as one number, its key: less means earlier, compared left to right
abbrev pub row_of : ℕ → TableRow
row_of k = record { states = k / 0x10000000000; actions = k / 0x100 % 0x100000000; next = k % 256 }

-- the keys of the rows
abbrev pub row_keys_of : Rows → List ℕ
row_keys_of t = take t.count t.keys

abbrev pub rows_of : Rows → List TableRow
rows_of t = map row_of (row_keys_of t)

abbrev pub pair_of : FaultyPair → Pair
pair_of x = record { state = x.state; action = x.action }

-- the refusal that a fault is, and its pair
abbrev pub fault_number : TableFault → ℕ
fault_number (NotMet x) = 19
fault_number (MetTwice x) = 20

abbrev pub fault_pair : TableFault → Pair
fault_pair (NotMet x) = pair_of x
fault_pair (MetTwice x) = pair_of x

-- what an answer is refused for, and the pair that decides; 0 and none where it is not
abbrev pub answer_number : {A : Type 0} → Result A TableFault → ℕ
answer_number (Ok x) = 0
answer_number (Err e) = fault_number e

abbrev pub answer_pair : {A : Type 0} → Result A TableFault → Pair
answer_pair (Ok x) = no_pair
answer_pair (Err e) = fault_pair e

-- what a table is refused for and the pair that decides, or its transitions
pub record Tabled (rs : List TableRow) (ps : List Pair) (t : Result Transitions TableFault) : Type 0 where
  pub refusal : answer_number t ≡ table_refusal rs ps
  pub pair : answer_pair t ≡ faulty_pair rs ps
  pub transitions : IfOk t (λ x. map transition_of (transition_keys_of x) ≡ table_transitions rs ps)
