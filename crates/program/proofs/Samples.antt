-- The paper's sample program F and some damaged copies, read and written by the definitions.
use mathlib.Core.Path.{◌≡◌, refl}
use mathlib.Core.Bool.{true, false}
use mathlib.Core.List.{List, [], ◌∷◌, ◌++◌}
use Prim.Native.Nat.{ℕ}
use Prim.Native.String.{String}
use Rattle.text.specs.Hex.{hex}
use Rattle.text.specs.Lines.{lines, numbers_of}
use Rattle.automaton.specs.Automaton.{Transition}
use Rattle.program.specs.Program.{Program}
use Rattle.program.specs.Chosen.{largest, numbers}
use Rattle.program.specs.Sample.{bytes, header, F}
use Rattle.program.specs.Verdicts.{Accepted}
use Rattle.program.specs.Writing.{nodes_frames, frames_with, text, written_with, written}
use Rattle.program.specs.Reading.{accepted, refused, refused_for, full, judge_as, judge, after_as, after, read_from, read_file}
use Rattle.program.specs.Frames.{row_frame}
use Rattle.rows.specs.Rows.{TableRow, pairs_from, times_met, table_refusal, faulty_pair, next_state}

abbrev pub sample : Program
sample =
    record {
      routines = 2;
      nodes = 3 ∷ 2 ∷ [];
      edges =
          record { routine = 0; source = 0; label = 0x41; target = 2 } ∷ record { routine = 0; source = 2; label = 1; target = 1 }
          ∷ record { routine = 1; source = 0; label = 0; target = 1 } ∷ [];
      automaton =
          record {
            states = 3;
            actions = 2;
            transitions =
                record { before = 0; label = 0; after = 1 } ∷ record { before = 0; label = 1; after = 2 }
                ∷ record { before = 1; label = 0; after = 1 } ∷ record { before = 1; label = 1; after = 1 } ∷ [];
            initial = 0 ∷ [];
            rejecting = 2 ∷ [];
          };
    }

-- to unfold this is to unfold all that reading computes with
reading : Unit {0}
unfolding lines numbers_of judge_as judge after_as after pairs_from times_met table_refusal faulty_pair next_state largest numbers read_from read_file
reading = tt

sample_read : read_file (bytes F) ≡ accepted sample
unfolding reading
sample_read = refl

sample_written : written sample ≡ bytes F
unfolding written_with frames_with nodes_frames text hex
sample_written = refl

-- ---- refusals, each with its line

small_letter : read_file (bytes ("5002030a" ∷ [])) ≡ refused 1 1
unfolding reading
small_letter = refl

unknown_kind : read_file (bytes (header ++ "5100" ∷ [])) ≡ refused 2 4
unfolding reading
unknown_kind = refl

wrong_count : read_file (bytes (header ++ "53000041" ∷ [])) ≡ refused 3 4
unfolding reading
wrong_count = refl

repeated_edge : read_file (bytes (header ++ "5300004102" ∷ "5300004102" ∷ [])) ≡ refused 4 5
unfolding reading
repeated_edge = refl

-- its numbers ascend, but routine 0 had its frame
repeated_routine : read_file (bytes ("50020302" ∷ "520003" ∷ "520004" ∷ [])) ≡ refused 4 3
unfolding reading
repeated_routine = refl

routine_left_out : read_file (bytes ("50020302" ∷ "520103" ∷ [])) ≡ refused 4 2
unfolding reading
routine_left_out = refl

-- with all routines there, one more is out of range
one_routine_more : read_file (bytes (header ++ "520502" ∷ [])) ≡ refused 5 4
unfolding reading
one_routine_more = refl

from_the_exit : read_file (bytes (header ++ "5300010000" ∷ [])) ≡ refused 5 4
unfolding reading
from_the_exit = refl

wrong_end_count : read_file (bytes (header ++ "450004" ∷ [])) ≡ refused 7 4
unfolding reading
wrong_end_count = refl

empty_input : read_file [] ≡ refused 8 1
unfolding reading
empty_input = refl

line_after_the_end : read_file (bytes (F ++ "" ∷ [])) ≡ refused 8 14
unfolding reading
line_after_the_end = refl

-- ---- labels: F's header, with two routines and two actions

-- the header, these lines, and the end frame with this count
abbrev headed : List String → String → List ℕ
headed ls end = bytes (header ++ ls ++ end ∷ [])

abbrev heard : List String
heard = "54000001" ∷ "54000101" ∷ "54004001" ∷ "54004101" ∷ "54006001" ∷ "54006101" ∷ "54010001" ∷ []

abbrev by : ℕ → Transition
by l = record { before = 0; label = l; after = 1 }

hearing : Program
hearing =
    record {
      routines = 2;
      nodes = 3 ∷ 2 ∷ [];
      edges = [];
      automaton =
          record {
            states = 3;
            actions = 2;
            transitions =
                by 0 ∷ by 1 ∷ by 0x40 ∷ by 0x41 ∷ by 0x60 ∷ by 0x61 ∷ record { before = 1; label = 0; after = 1 } ∷ [];
            initial = [];
            rejecting = [];
          };
    }

-- both actions, the calls of both routines and the returns from them, ascending
heard_read : read_file (headed heard "45000A") ≡ accepted hearing
unfolding reading hearing
heard_read = refl

heard_written : written hearing ≡ headed heard "45000A"
unfolding hearing written_with frames_with nodes_frames text hex
heard_written = refl

-- the first label past the actions, the calls and the returns, and the last before the next kind of label
third_action : read_file (headed ("54000201" ∷ []) "450004") ≡ refused 5 4
unfolding reading
third_action = refl

before_the_calls : read_file (headed ("54003F01" ∷ []) "450004") ≡ refused 5 4
unfolding reading
before_the_calls = refl

call_of_a_third : read_file (headed ("54004201" ∷ []) "450004") ≡ refused 5 4
unfolding reading
call_of_a_third = refl

before_the_returns : read_file (headed ("54005F01" ∷ []) "450004") ≡ refused 5 4
unfolding reading
before_the_returns = refl

return_from_a_third : read_file (headed ("54006201" ∷ []) "450004") ≡ refused 5 4
unfolding reading
return_from_a_third = refl

last_label : read_file (headed ("54007F01" ∷ []) "450004") ≡ refused 5 4
unfolding reading
last_label = refl

-- an edge calls and does not return
step_by_a_return : read_file (headed ("5300006002" ∷ []) "450004") ≡ refused 5 4
unfolding reading
step_by_a_return = refl

step_by_another_return : read_file (headed ("5300006102" ∷ []) "450004") ≡ refused 5 4
unfolding reading
step_by_another_return = refl

call_after_return : read_file (headed ("54006001" ∷ "54004101" ∷ []) "450005") ≡ refused 4 5
unfolding reading
call_after_return = refl

action_after_call : read_file (headed ("54004001" ∷ "54000101" ∷ []) "450005") ≡ refused 4 5
unfolding reading
action_after_call = refl

-- a table has actions only
return_after_row : read_file (headed ("55030000000301" ∷ "54006001" ∷ []) "450005") ≡ refused 4 5
unfolding reading
return_after_row = refl

-- ---- files with rows: two states and two actions

-- one routine, these lines, and the end frame with this count
abbrev rule : List String → String → List ℕ
rule rows end = bytes (("50010202" ∷ "520002" ∷ []) ++ rows ++ end ∷ [])

tabled : Program
tabled =
    record {
      routines = 1;
      nodes = 2 ∷ [];
      edges = record { routine = 0; source = 0; label = 0; target = 1 } ∷ record { routine = 0; source = 0; label = 0x40; target = 0 } ∷ [];
      automaton =
          record {
            states = 2;
            actions = 2;
            transitions =
                record { before = 0; label = 0; after = 1 } ∷ record { before = 0; label = 1; after = 0 }
                ∷ record { before = 1; label = 0; after = 1 } ∷ record { before = 1; label = 1; after = 1 } ∷ [];
            initial = 0 ∷ [];
            rejecting = 1 ∷ [];
          };
    }

-- the row without a bit meets no pair; action 1 leads from state 0 to state 0
table_file : List ℕ
table_file =
    rule ("5300000001" ∷ "5300004000" ∷ "55000000000000" ∷ "55010000000101" ∷ "55010000000200" ∷ "55020000000301" ∷ "4900" ∷ "4601" ∷ []) "45000A"

abbrev table_row : ℕ → ℕ → ℕ → TableRow
table_row states actions next = record { states = states; actions = actions; next = next }

-- its edges, its initial and its rejecting state are there, and its transitions are those of the table
table_read : read_file table_file ≡ accepted tabled
unfolding reading tabled table_file
table_read = refl

table_written : written_with tabled (table_row 0 0 0 ∷ table_row 1 1 1 ∷ table_row 1 2 0 ∷ table_row 2 3 1 ∷ []) ≡ table_file
unfolding tabled table_file written_with frames_with nodes_frames text hex
table_written = refl

-- with 8 states a row has one number of state bits, with 9 it has two
row_of_8_states : row_frame 8 (table_row 0x81 0x01020304 7) ≡ 0x55 ∷ 0x81 ∷ 1 ∷ 2 ∷ 3 ∷ 4 ∷ 7 ∷ []
row_of_8_states = refl

row_of_9_states : row_frame 9 (table_row 0x181 0x01020304 8) ≡ 0x55 ∷ 1 ∷ 0x81 ∷ 1 ∷ 2 ∷ 3 ∷ 4 ∷ 8 ∷ []
row_of_9_states = refl

one_row : (read_file (rule ("55030000000301" ∷ []) "450003")).verdict ≡ Accepted
unfolding reading
one_row = refl

-- no row meets state 1
pair_missing : read_file (rule ("55010000000301" ∷ []) "450003") ≡ refused_for 19 (record { state = 1; action = 0 })
unfolding reading
pair_missing = refl

pair_doubled : read_file (rule ("55010000000301" ∷ "55030000000300" ∷ []) "450004") ≡ refused_for 20 (record { state = 0; action = 0 })
unfolding reading
pair_doubled = refl

-- state 0 with action 1 is missing, state 1 with action 0 is met twice: the lower state decides, not the lower action
first_pair : read_file (rule ("55010000000100" ∷ "55020000000100" ∷ "55020000000300" ∷ []) "450005") ≡ refused_for 19 (record { state = 0; action = 1 })
unfolding reading
first_pair = refl

-- a fault of a line, or a missing end, comes before the table's
line_first : read_file (rule ("55010000000301" ∷ []) "450004") ≡ refused 7 4
unfolding reading
line_first = refl

row_after_transition : read_file (rule ("54000001" ∷ "55030000000301" ∷ []) "450004") ≡ refused 4 4
unfolding reading
row_after_transition = refl

transition_after_row : read_file (rule ("55030000000301" ∷ "54000001" ∷ []) "450004") ≡ refused 4 4
unfolding reading
transition_after_row = refl

rows_descend : read_file (rule ("55020000000301" ∷ "55010000000301" ∷ []) "450004") ≡ refused 4 4
unfolding reading
rows_descend = refl

state_bit_outside : read_file (rule ("55040000000301" ∷ []) "450003") ≡ refused 5 3
unfolding reading
state_bit_outside = refl

action_bit_outside : read_file (rule ("55030000000401" ∷ []) "450003") ≡ refused 5 3
unfolding reading
action_bit_outside = refl

next_state_outside : read_file (rule ("55030000000302" ∷ []) "450003") ≡ refused 5 3
unfolding reading
next_state_outside = refl

row_too_short : read_file (rule ("550300000003" ∷ []) "450003") ≡ refused 3 3
unfolding reading
row_too_short = refl

-- ---- rows of two numbers of state bits: nine states and one action

-- one routine, these lines, and the end frame with this count
abbrev nine : List String → String → List ℕ
nine rows end = bytes (("50010901" ∷ "520002" ∷ []) ++ rows ++ end ∷ [])

wide_row : (read_file (nine ("5501FF0000000108" ∷ []) "450003")).verdict ≡ Accepted
unfolding reading
wide_row = refl

-- eight states need one number only
eight_states : (read_file (bytes ("50010801" ∷ "520002" ∷ "55FF0000000107" ∷ "450003" ∷ []))).verdict ≡ Accepted
unfolding reading
eight_states = refl

-- the high number first: state 8 has the row that comes last
wide_rows : (read_file (nine ("5500FF0000000108" ∷ "5501000000000108" ∷ []) "450004")).verdict ≡ Accepted
unfolding reading
wide_rows = refl

wide_rows_descend : read_file (nine ("5501000000000108" ∷ "5500FF0000000108" ∷ []) "450004") ≡ refused 4 4
unfolding reading
wide_rows_descend = refl

last_pair_missing : read_file (nine ("5500FF0000000108" ∷ []) "450003") ≡ refused_for 19 (record { state = 8; action = 0 })
unfolding reading
last_pair_missing = refl

wide_bit_outside : read_file (nine ("5503FF0000000108" ∷ []) "450003") ≡ refused 5 3
unfolding reading
wide_bit_outside = refl

wide_row_too_short : read_file (nine ("55FF0000000108" ∷ []) "450003") ≡ refused 3 3
unfolding reading
wide_row_too_short = refl

row_too_long : read_file (rule ("5500030000000301" ∷ []) "450003") ≡ refused 3 3
unfolding reading
row_too_long = refl

-- before the header there are 0 states, and a row has one number of state bits
wide_row_first : read_file (bytes ("5501FF0000000108" ∷ [])) ≡ refused 3 1
unfolding reading
wide_row_first = refl

row_first : read_file (bytes ("55FF0000000108" ∷ [])) ≡ refused 4 1
unfolding reading
row_first = refl

-- ---- sizes: so many routines, all with the same count of nodes, 16 states and one action

most_states : (read_file (bytes ("50011001" ∷ "520002" ∷ "450002" ∷ []))).verdict ≡ Accepted
unfolding reading
most_states = refl

one_state_more : read_file (bytes ("50011101" ∷ "520002" ∷ "450002" ∷ [])) ≡ refused 5 1
unfolding reading
one_state_more = refl

-- 64 places and 16 states: a product of 16,384
most_nodes : (read_file (bytes ("50011001" ∷ "520040" ∷ "450002" ∷ []))).verdict ≡ Accepted
unfolding reading
most_nodes = refl

one_node_more : read_file (bytes ("50011001" ∷ "520041" ∷ "450002" ∷ [])) ≡ refused 5 2
unfolding reading
one_node_more = refl

product_above : read_file (bytes ("50021001" ∷ "520021" ∷ "520102" ∷ "450003" ∷ [])) ≡ refused 23 0
unfolding reading
product_above = refl

-- the table is judged before the sizes
table_before_sizes : read_file (bytes ("50021001" ∷ "520021" ∷ "520102" ∷ "557FFF0000000100" ∷ "450004" ∷ [])) ≡ refused_for 19 (record { state = 15; action = 0 })
unfolding reading
table_before_sizes = refl

sizes_after_table : read_file (bytes ("50021001" ∷ "520021" ∷ "520102" ∷ "55FFFF0000000100" ∷ "450004" ∷ [])) ≡ refused 23 0
unfolding reading
sizes_after_table = refl

-- ---- 6: the 257th edge, the 513th transition and the 257th row

last_edge : (full 255 0 0 3 ≡ false) × (full 256 0 0 3 ≡ true)
last_edge = (refl, refl)

last_transition : (full 0 511 0 4 ≡ false) × (full 0 512 0 4 ≡ true)
last_transition = (refl, refl)

last_row : (full 0 0 255 5 ≡ false) × (full 0 0 256 5 ≡ true)
last_row = (refl, refl)
