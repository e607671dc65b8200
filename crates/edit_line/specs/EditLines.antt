-- An edit line: exactly one line of hexadecimal. 2B f n l m adds an edge (paper: a step), 2D f n l m drops it, and
-- 3D f n l m b gives it the label b.
use Rattle.std.specs.Prelude.{ℕ, Bool, cond, ◌&&◌, ◌||◌, not, List, [], eqb, length}
use Rattle.text.specs.Lines.{numbers_of, line_of, line_from, next_from}
use Rattle.text.specs.declared.Line.{Line}
use Rattle.program.specs.Program.{Program, edge_fits}
use Rattle.automaton.specs.Automaton.{label_fits}
use Rattle.program.specs.Frames.{num}
use Rattle.program.specs.Reading.{edge_in}
use Rattle.edit.specs.Edits.{event_of}
use Rattle.edit.specs.Editing.{wanted_by}
use Rattle.edit.specs.declared.Step.{Step}
use Rattle.edit.specs.declared.Edit.{Edit}
use Rattle.edit.specs.declared.Edit.TheVariants.{Add, Drop, Replace}
use Rattle.edit.specs.EditReads.{EditRead}
use Rattle.edit.specs.EditReads.{Read, Refused}

-- the line of a buffer that holds exactly one; a line without a number where it holds anything else
abbrev pub only_line : List ℕ → Line
only_line s = cond (eqb (next_from 0 (numbers_of s)) (length s)) (line_from (numbers_of s)) (line_of [])

-- 1 adds, 2 drops, 3 replaces; 0 for an unknown kind
abbrev pub edit_kind : Line → ℕ
edit_kind l = cond (eqb (num l 0) 0x2B) 1 (cond (eqb (num l 0) 0x2D) 2 (cond (eqb (num l 0) 0x3D) 3 0))

-- how many numbers such a line has, its kind among them
abbrev pub edit_size : ℕ → ℕ
edit_size k = cond (eqb k 3) 6 5

-- 12: no line or not one only, an unknown kind, or a wrong count of numbers
abbrev pub bad_line : Line → Bool
bad_line l = eqb l.count 0 || eqb (edit_kind l) 0 || not (eqb l.count (edit_size (edit_kind l)))

-- 13: the step is out of range or leaves the exit, or the new label is out of range
abbrev pub out_of_range : Program → Line → Bool
out_of_range p l = not (edge_fits p (edge_in l)) || (eqb (edit_kind l) 3
    && not (label_fits p.routines p.automaton.actions (num l 5)))

abbrev pub step_in : Line → Step
step_in l = record { routine = num l 1; source = num l 2; label = event_of (num l 3); target = num l 4 }

abbrev pub edit_in : Line → Edit
edit_in l = cond (eqb (edit_kind l) 1) (Add (step_in l)) (cond (eqb (edit_kind l) 2) (Drop (step_in l))
    (Replace (step_in l) (event_of (num l 5))))

unfoldable pub edit_from : Program → Line → EditRead
edit_from p l = cond (bad_line l) (Refused 12) (cond (out_of_range p l) (Refused 13) (Read (edit_in l)))

-- the edit that a buffer says for a program, or the first refusal of 12 and 13 that it meets
unfoldable pub read_edit : Program → List ℕ → EditRead
read_edit p s = edit_from p (only_line s)

-- the edit that a buffer says for a program, or the first refusal of 12 to 16 that it meets
unfoldable pub wanted_edit : Program → List ℕ → EditRead
wanted_edit p line = wanted_by (read_edit p line) p.edges
