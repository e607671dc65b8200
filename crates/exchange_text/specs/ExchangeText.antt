-- The text of an exchange: lines as in a file. A frame 52 has the routine and its new count of nodes (paper: places),
-- and all its frames 53 follow, ascending.
use Rattle.std.specs.Prelude.{ℕ, ◌+◌, Bool, true, false, cond, ◌||◌, not, List, [], ◌∷◌, map, ltb, eqb, length}
use Rattle.text.specs.Lines.{lines, numbers_of, line_from}
use Rattle.text.specs.declared.Line.{Line}
use Rattle.program.specs.Sizes.{max_edges}
use Rattle.program.specs.Program.{Program}
use Rattle.program.specs.Chosen.{sizes_fit}
use Rattle.program.specs.Frames.{size, num, kind, word, rest, key_of}
use Rattle.program.specs.Reading.{edge_in, ranged}
use Rattle.program.specs.Checks.{Row, row, first_met}
use Rattle.exchange.specs.Changes.{Exchange, whole, ChangeRead, Read, Refused}
use Rattle.exchange.specs.Changing.{others, with_nodes}

abbrev pub line_in : List ℕ → Line
line_in l = line_from (numbers_of l)

abbrev pub text_lines : List ℕ → List Line
text_lines s = map line_in (lines s)

-- a frame 52 is that of a routine, a frame 53 that of an edge: positions 2 and 3 in the table of kinds
abbrev pub of_routine : Line → Bool
of_routine l = eqb (kind l) 2

abbrev pub of_edge : Line → Bool
of_edge l = eqb (kind l) 3

-- some line meets a test
unfoldable pub any : (Line → Bool) → List Line → Bool
any t [] = false
any t (l ∷ ls) = t l || any t ls

-- ---- 12: no line at all, or a line with faults as in 1 to 3; the known kinds are 52 and 53

-- the states do not matter for the size of these kinds
abbrev pub bad_frame : Line → Bool
bad_frame l = eqb l.count 0 || not (of_routine l || of_edge l) || not (eqb l.count (size 0 (kind l)))

abbrev pub bad_text : List Line → Bool
bad_text [] = true
bad_text (l ∷ ls) = any bad_frame (l ∷ ls)

-- ---- 13: as 5; the count of nodes that a leading frame 52 says is taken for its routine

-- what bounds the numbers
abbrev pub bounded_by : List Line → Program → Program
bounded_by [] p = p
bounded_by (l ∷ ls) p = cond (of_routine l) (with_nodes p (num l 1) (num l 2)) p

abbrev pub outside : Program → Line → Bool
outside p l = not (ranged p (kind l) l)

abbrev pub out_of_range : Program → List Line → Bool
out_of_range p ls = any (outside (bounded_by ls p)) ls

-- ---- 21: the first frame is not 52; or a later one is no edge of this routine above the one before it

-- a frame's key: less means that it stands earlier in a file
abbrev pub frame_key : Line → ℕ
frame_key l = key_of (kind l) (word l) (rest l)

-- after an edge of key `last`, 0 before the first: a frame 52, a frame of another routine than f, or one out of order
abbrev pub astray : ℕ → ℕ → Line → Bool
astray f last l = not (of_edge l) || not (eqb (num l 1) f) || not (ltb last (frame_key l))

unfoldable pub any_astray : ℕ → ℕ → List Line → Bool
any_astray f last [] = false
any_astray f last (l ∷ ls) = astray f last l || any_astray f (frame_key l) ls

abbrev pub disordered : List Line → Bool
disordered [] = true
disordered (l ∷ ls) = not (of_routine l) || any_astray (num l 1) 0 ls

-- ---- what the text says, and 16: the new program would have more than 256 edges

abbrev pub exchange_in : List Line → Exchange
exchange_in [] = record { routine = 0; nodes = 0; edges = [] }
exchange_in (l ∷ ls) = record { routine = num l 1; nodes = num l 2; edges = map edge_in ls }

abbrev pub too_many : Program → Exchange → Bool
too_many p x = ltb max_edges (length (others x.routine p.edges) + length x.edges)

-- ---- 23: the product of the new program's sizes is above 16,384

abbrev pub too_large : Program → Exchange → Bool
too_large p x = not (sizes_fit (with_nodes p x.routine x.nodes))

-- ---- the refusals, each over the whole text before the next, and else the exchange

abbrev pub exchange_rows : Program → List Line → List Row
exchange_rows p ls =
    -- no line, or a line with faults as in 1 to 3
    row 12 (bad_text ls)
    -- as 5, by a leading 52's count of nodes for its routine
    ∷ row 13 (out_of_range p ls)
    -- the first frame is not 52; a later 52, a frame of another routine, or one out of order
    ∷ row 21 (disordered ls)
    -- the new program would have more than 256 edges
    ∷ row 16 (too_many p (exchange_in ls))
    -- the product of its sizes is above 16,384
    ∷ row 23 (too_large p (exchange_in ls))
    ∷ []

abbrev pub exchange_unless : ℕ → Exchange → ChangeRead
exchange_unless n x = cond (eqb n 0) (Read (whole x)) (Refused n)

unfoldable pub exchange_from : Program → List Line → ChangeRead
exchange_from p ls = exchange_unless (first_met (exchange_rows p ls)) (exchange_in ls)

-- the exchange that a text says for a program, or the first refusal of 12, 13, 21, 16 and 23 that it meets
unfoldable pub wanted_exchange : Program → List ℕ → ChangeRead
wanted_exchange p text = exchange_from p (text_lines text)
