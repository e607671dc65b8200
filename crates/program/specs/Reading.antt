-- Reading a file: line after line, and the first faulty line decides; then the table of a file with rows, and the sizes.
use Rattle.std.specs.Prelude.{ℕ, ◌+◌, ◌*◌, Bool, false, cond, ◌&&◌, ◌||◌, not, List, [], ◌∷◌, ◌++◌, ltb, leb, eqb, length}
use Rattle.text.specs.Lines.{lines, numbers_of, line_from}
use Rattle.text.specs.declared.Line.{Line}
use Rattle.automaton.specs.Automaton.{Transition, Automaton}
use Rattle.automaton.specs.Sizes.{max_transitions}
use Rattle.rows.specs.Rows.{max_rows, TableRow, row_fits, Pair, no_pair, pairs, table_refusal, faulty_pair}
use Rattle.rows.specs.Rows.{table_transitions}
use Rattle.program.specs.Sizes.{max_edges}
use Rattle.program.specs.Program.{Edge, Program, no_program, within, nodes_fit, counts_fit}
use Rattle.program.specs.Program.{edge_fits, transition_fits}
use Rattle.program.specs.Chosen.{sizes_fit}
use Rattle.program.specs.Frames.{size, num, kind, packed, word, rest, key_of}
use Rattle.program.specs.Verdicts.{Verdict}
use Rattle.program.specs.Verdicts.{Accepted, Refused}

-- what is known after some frames: the last one's key (0 before the first), how many there were, whether the last was
-- an end frame, the rows so far, and the program so far
pub record Progress : Type 0 where
  pub last : ℕ
  pub frames : ℕ
  pub ended : Bool
  pub rows : List TableRow
  pub program : Program

abbrev pub start : Progress
start = record { last = 0; frames = 0; ended = false; rows = []; program = no_program }

-- ---- what one line meets; k is the place of its kind in the table of kinds

-- the routine frame that is due; with all of them there, one more is out of range (5) and not out of order
abbrev pub due : ℕ → ℕ → ℕ → Bool
due routines done f = eqb f done || (leb routines done && ltb done f)

-- 50 comes first and only there; routine frames run from 0 without a gap, and all are there before what follows them
abbrev pub in_place : ℕ → ℕ → ℕ → ℕ → Line → Bool
in_place frames routines done k l =
    (eqb k 1 && eqb frames 0)
    || (eqb k 2 && ltb 0 frames && due routines done (num l 1))
    || (ltb 2 k && ltb 0 frames && eqb done routines)

-- a row after a transition; a transition after a row is out of order by its kind
abbrev pub mixed : ℕ → ℕ → Bool
mixed transitions k = eqb k 5 && ltb 0 transitions

-- frames ascend, each in its place; a file has transitions or rows
abbrev pub ordered : ℕ → ℕ → ℕ → ℕ → ℕ → ℕ → Line → Bool
ordered last frames routines done transitions k l =
    ltb last (key_of k (word l) (rest l)) && in_place frames routines done k l && not (mixed transitions k)

abbrev pub edge_in : Line → Edge
edge_in l = record { routine = num l 1; source = num l 2; label = num l 3; target = num l 4 }

abbrev pub transition_in : Line → Transition
transition_in l = record { before = num l 1; label = num l 2; after = num l 3 }

-- a row (paper: a frame 55): the numbers of state bits, four of action bits, high first, and the next state
abbrev pub narrow_row : Line → TableRow
narrow_row l = record { states = num l 1; actions = packed (num l 2) (num l 3) (num l 4) (num l 5); next = num l 6 }

abbrev pub wide_row : Line → TableRow
wide_row l =
    record {
      states = num l 1 * 256 + num l 2;
      actions = packed (num l 3) (num l 4) (num l 5) (num l 6);
      next = num l 7;
    }

-- two numbers of state bits, high first, where there are more than 8 states, else one
abbrev pub row_in : ℕ → Line → TableRow
row_in states l = cond (ltb 8 states) (wide_row l) (narrow_row l)

abbrev pub ranged : Program → ℕ → Line → Bool
ranged p k l =
    (eqb k 1 && counts_fit (num l 1) (num l 2) (num l 3))
    || (eqb k 2 && ltb (num l 1) p.routines && nodes_fit (num l 2))
    || (eqb k 3 && edge_fits p (edge_in l))
    || (eqb k 4 && transition_fits p (transition_in l))
    || (eqb k 5 && row_fits p.automaton (row_in p.automaton.states l))
    || (within 6 7 k && ltb (num l 1) p.automaton.states)
    || eqb k 8

-- the 257th edge, the 513th transition or the 257th row
abbrev pub full : ℕ → ℕ → ℕ → ℕ → Bool
full edges transitions rows k =
    (eqb k 3 && leb max_edges edges) || (eqb k 4 && leb max_transitions transitions) || (eqb k 5 && leb max_rows rows)

-- an end frame with a wrong count
abbrev pub miscounted : ℕ → ℕ → Line → Bool
miscounted frames k l = eqb k 8 && not (eqb (num l 1 * 256 + num l 2) frames)

-- the lowest number that is met, or 0
abbrev pub lowest : Bool → Bool → Bool → Bool → Bool → Bool → Bool → ℕ
lowest a b c d e f g = cond a 1 (cond b 2 (cond c 3 (cond d 4 (cond e 5 (cond f 6 (cond g 7 0))))))

-- the refusal that a line meets after this progress, or 0; before the header there are 0 states
unfoldable pub judge_as : Progress → ℕ → Line → ℕ
judge_as s k l =
    lowest (eqb l.count 0) (eqb k 0) (not (eqb l.count (size s.program.automaton.states k)))
    (not (ordered s.last s.frames s.program.routines (length s.program.nodes)
    (length s.program.automaton.transitions) k l))
    (not (ranged s.program k l))
    (full (length s.program.edges) (length s.program.automaton.transitions) (length s.rows) k)
    (miscounted s.frames k l)

unfoldable pub judge : Progress → Line → ℕ
judge s l = judge_as s (kind l) l

-- ---- what is known after a line without a fault

-- one more at the end, if the test holds
abbrev pub more : {A : Type 0} → Bool → A → List A → List A
more t x xs = cond t (xs ++ x ∷ []) xs

abbrev pub automaton_after : Automaton → ℕ → Line → Automaton
automaton_after r k l =
    record {
      states = cond (eqb k 1) (num l 2) r.states;
      actions = cond (eqb k 1) (num l 3) r.actions;
      transitions = more (eqb k 4) (transition_in l) r.transitions;
      initial = more (eqb k 6) (num l 1) r.initial;
      rejecting = more (eqb k 7) (num l 1) r.rejecting;
    }

abbrev pub program_after : Program → ℕ → Line → Program
program_after p k l =
    record {
      routines = cond (eqb k 1) (num l 1) p.routines;
      nodes = more (eqb k 2) (num l 2) p.nodes;
      edges = more (eqb k 3) (edge_in l) p.edges;
      automaton = automaton_after p.automaton k l;
    }

unfoldable pub after_as : Progress → ℕ → Line → Progress
after_as s k l =
    record {
      last = key_of k (word l) (rest l);
      frames = s.frames + 1;
      ended = eqb k 8;
      rows = more (eqb k 5) (row_in s.program.automaton.states l) s.rows;
      program = program_after s.program k l;
    }

unfoldable pub after : Progress → Line → Progress
after s l = after_as s (kind l) l

-- ---- a whole file

-- accepted, with the program; or refused by a number at a line, and then there is no program; and the pair that a table
-- is refused for
pub record Outcome : Type 0 where
  pub verdict : Verdict
  pub program : Program
  pub pair : Pair

abbrev pub accepted : Program → Outcome
accepted p = record { verdict = Accepted; program = p; pair = no_pair }

abbrev pub refused : ℕ → ℕ → Outcome
refused n line = record { verdict = Refused n line; program = no_program; pair = no_pair }

-- for a pair of a table, which has no line
abbrev pub refused_for : ℕ → Pair → Outcome
refused_for n x = record { verdict = Refused n 0; program = no_program; pair = x }

-- ---- the table of a file with rows

-- the pairs of each state and each action of a program
abbrev pub pairs_of : Program → List Pair
pairs_of p = pairs p.automaton.states p.automaton.actions

abbrev pub with_transitions : Program → List Transition → Program
with_transitions p ts =
    record {
      routines = p.routines;
      nodes = p.nodes;
      edges = p.edges;
      automaton =
          record {
            states = p.automaton.states;
            actions = p.automaton.actions;
            transitions = ts;
            initial = p.automaton.initial;
            rejecting = p.automaton.rejecting;
          };
    }

-- sizes whose product is above 16,384 refuse the file (23), with line 0
abbrev pub sizes_decide : Program → Outcome
sizes_decide p = cond (sizes_fit p) (accepted p) (refused 23 0)

-- a table that is refused (19, 20) refuses the file, with line 0 and for its first faulty pair; else its transitions are
-- the program's
abbrev pub table_decides : Bool → ℕ → List TableRow → Program → Outcome
table_decides good n rs p =
    cond good (sizes_decide (with_transitions p (table_transitions rs (pairs_of p))))
    (refused_for n (faulty_pair rs (pairs_of p)))

-- every line is good: only a file with rows has a table, and the sizes are asked last
abbrev pub finished : List TableRow → Program → Outcome
finished [] p = sizes_decide p
finished (r ∷ rs) p =
    table_decides (eqb (table_refusal (r ∷ rs) (pairs_of p)) 0) (table_refusal (r ∷ rs) (pairs_of p)) (r ∷ rs) p

-- ---- lines one by one

-- the line after these frames: it comes after the end, or it is faulty, or the rest decides
abbrev pub decided : Progress → ℕ → Outcome → Outcome
decided s n rest = cond s.ended (refused 8 (s.frames + 1)) (cond (ltb 0 n) (refused n (s.frames + 1)) rest)

unfoldable pub read_from : Progress → List (List ℕ) → Outcome
read_from s [] = cond s.ended (finished s.rows s.program) (refused 8 (s.frames + 1))
read_from s (l ∷ ls) = decided s (judge s (line_from (numbers_of l))) (read_from (after s (line_from (numbers_of l))) ls)

unfoldable pub read_file : List ℕ → Outcome
read_file file = read_from start (lines file)

-- ---- the rows of a file: those of its lines of kind 55, by the states of its program

abbrev pub row_first : ℕ → Line → List TableRow → List TableRow
row_first states l rs = cond (eqb (kind l) 5) (row_in states l ∷ rs) rs

unfoldable pub rows_from : ℕ → List (List ℕ) → List TableRow
rows_from states [] = []
rows_from states (l ∷ ls) = row_first states (line_from (numbers_of l)) (rows_from states ls)

abbrev pub rows_in : List ℕ → List TableRow
rows_in file = rows_from (read_file file).program.automaton.states (lines file)

-- ---- the numbers of a verdict

-- the refusal's number; 0 where there is none
abbrev pub refusal : Verdict → ℕ
refusal Accepted = 0
refusal (Refused n line) = n

-- the line of a refusal, counted from 1; 0 where there is none
abbrev pub refusal_line : Verdict → ℕ
refusal_line Accepted = 0
refusal_line (Refused n line) = line
