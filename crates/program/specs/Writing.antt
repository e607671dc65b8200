-- A program written as a file, and a program and the rows of its table.
use Rattle.std.specs.Prelude.{ℕ, ◌+◌, List, [], ◌∷◌, ◌++◌, map, length}
use Rattle.text.specs.Hex.{hex_line}
use Rattle.automaton.specs.Automaton.{Transition}
use Rattle.rows.specs.Rows.{TableRow}
use Rattle.program.specs.Program.{Program}
use Rattle.program.specs.Frames.{header_frame, nodes_frame, edge_frame, transition_frame, row_frame, initial_frame}
use Rattle.program.specs.Frames.{rejecting_frame, end_frame}

-- a frame for each routine, from routine f on
unfoldable pub nodes_frames : ℕ → List ℕ → List (List ℕ)
nodes_frames f [] = []
nodes_frames f (n ∷ ns) = nodes_frame f n ∷ nodes_frames (f + 1) ns

-- the frames of an automaton's transitions, where it has so many states: one for each (paper: a frame 54) or, in a file
-- with rows, one for each row of their table (paper: a frame 55)
abbrev pub transition_frames : ℕ → List Transition → List TableRow → List (List ℕ)
transition_frames states ts [] = map transition_frame ts
transition_frames states ts (r ∷ rs) = map (row_frame states) (r ∷ rs)

-- the frames before the end frame of a program and rows, in the order of the table of kinds
unfoldable pub frames_with : Program → List TableRow → List (List ℕ)
frames_with p rs =
    header_frame p.routines p.automaton.states p.automaton.actions
    ∷ (nodes_frames 0 p.nodes ++ (map edge_frame p.edges
    ++ (transition_frames p.automaton.states p.automaton.transitions rs
    ++ (map initial_frame p.automaton.initial ++ map rejecting_frame p.automaton.rejecting))))

-- those of a program that is written with its transitions
abbrev pub frames_of : Program → List (List ℕ)
frames_of p = frames_with p []

-- the lines of some frames
unfoldable pub text : List (List ℕ) → List ℕ
text [] = []
text (f ∷ fs) = hex_line f ++ text fs

-- the file of a program and rows: their frames, and the end frame with the count of these
unfoldable pub written_with : Program → List TableRow → List ℕ
written_with p rs = text (frames_with p rs ++ (end_frame (length (frames_with p rs)) ∷ []))

-- the file of a program
abbrev pub written : Program → List ℕ
written p = written_with p []
