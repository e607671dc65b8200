-- Frames: the numbers of one line, the kind first.
use Rattle.std.specs.Prelude.{ℕ, ◌+◌, ◌*◌, ◌/◌, ◌%◌, cond, List, [], ◌∷◌, ◌++◌, ltb, eqb, get_or}
use Rattle.text.specs.Lines.{line_of}
use Rattle.text.specs.declared.Line.{Line}
use Rattle.automaton.specs.Automaton.{Transition}
use Rattle.rows.specs.Rows.{TableRow}
use Rattle.program.specs.Program.{Edge}

-- a kind's place in the table of kinds, from 1; 0 for an unknown kind. A file has 54 or 55 and not both (`ordered`), so
-- that rows stand where transitions would
abbrev pub kind_order : ℕ → ℕ
kind_order k =
    cond (eqb k 0x50) 1 (cond (eqb k 0x52) 2 (cond (eqb k 0x53) 3 (cond (eqb k 0x54) 4 (cond (eqb k 0x55) 5
    (cond (eqb k 0x49) 6 (cond (eqb k 0x46) 7 (cond (eqb k 0x45) 8 0)))))))

-- how many numbers a row has, its kind among them: two of state bits where there are more than 8 states, else one
abbrev pub row_size : ℕ → ℕ
row_size states = cond (ltb 8 states) 8 7

-- how many numbers a frame of the kind at that place has, its kind among them, where there are so many states
abbrev pub size : ℕ → ℕ → ℕ
size states k =
    cond (eqb k 1) 4 (cond (eqb k 2) 3 (cond (eqb k 3) 5 (cond (eqb k 4) 4 (cond (eqb k 5) (row_size states)
    (cond (eqb k 8) 3 2)))))

-- the numbers of a line, the kind at 0
abbrev pub num : Line → ℕ → ℕ
num l i = get_or l.numbers i 0

abbrev pub kind : Line → ℕ
kind l = kind_order (num l 0)

-- four numbers as one in base 256, so that less means earlier, compared left to right
abbrev pub packed : ℕ → ℕ → ℕ → ℕ → ℕ
packed a b c d = ((a * 256 + b) * 256 + c) * 256 + d

-- the numbers after a line's kind: the first four as one, and the last three as one
abbrev pub word : Line → ℕ
word l = packed (num l 1) (num l 2) (num l 3) (num l 4)

abbrev pub rest : Line → ℕ
rest l = packed 0 (num l 5) (num l 6) (num l 7)

-- the place of a frame's kind and its numbers as one number, its key: less means that it stands earlier in a file
abbrev pub key_of : ℕ → ℕ → ℕ → ℕ
key_of k w v = (k * 0x100000000 + w) * 0x1000000 + v

-- ---- the frames of a program's parts

abbrev pub header_frame : ℕ → ℕ → ℕ → List ℕ
header_frame r q a = 0x50 ∷ r ∷ q ∷ a ∷ []

abbrev pub nodes_frame : ℕ → ℕ → List ℕ
nodes_frame f n = 0x52 ∷ f ∷ n ∷ []

abbrev pub edge_frame : Edge → List ℕ
edge_frame e = 0x53 ∷ e.routine ∷ e.source ∷ e.label ∷ e.target ∷ []

abbrev pub transition_frame : Transition → List ℕ
transition_frame t = 0x54 ∷ t.before ∷ t.label ∷ t.after ∷ []

-- the state bits of a row: two numbers, high first, where there are more than 8 states, else one
abbrev pub state_numbers : ℕ → ℕ → List ℕ
state_numbers states bits = cond (ltb 8 states) (bits / 256 ∷ bits % 256 ∷ []) (bits ∷ [])

-- the action bits of a row: four numbers, high first
abbrev pub action_numbers : ℕ → List ℕ
action_numbers bits = bits / 0x1000000 ∷ bits / 0x10000 % 256 ∷ bits / 0x100 % 256 ∷ bits % 256 ∷ []

-- a row (paper: a frame 55), where there are so many states: its state bits, its action bits and the next state
abbrev pub row_frame : ℕ → TableRow → List ℕ
row_frame states r = 0x55 ∷ (state_numbers states r.states ++ (action_numbers r.actions ++ (r.next ∷ [])))

abbrev pub initial_frame : ℕ → List ℕ
initial_frame q = 0x49 ∷ q ∷ []

abbrev pub rejecting_frame : ℕ → List ℕ
rejecting_frame q = 0x46 ∷ q ∷ []

-- the end frame has the count of the frames before it, high number first
abbrev pub end_frame : ℕ → List ℕ
end_frame n = 0x45 ∷ n / 256 ∷ n % 256 ∷ []

-- their keys
abbrev pub edge_key : Edge → ℕ
edge_key e = key_of 3 (packed e.routine e.source e.label e.target) 0

abbrev pub transition_key : Transition → ℕ
transition_key t = key_of 4 (packed t.before t.label t.after 0) 0

-- a row's numbers are those of its frame
abbrev pub row_key : ℕ → TableRow → ℕ
row_key states r = let l = line_of (row_frame states r) in key_of 5 (word l) (rest l)

abbrev pub initial_key : ℕ → ℕ
initial_key q = key_of 6 (packed q 0 0 0) 0

abbrev pub rejecting_key : ℕ → ℕ
rejecting_key q = key_of 7 (packed q 0 0 0) 0
