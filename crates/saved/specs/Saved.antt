-- Saved marks (paper: saved sheets): the flags that were kept before a program chose its sizes, and the frames that
-- they move to.
use Rattle.std.specs.Prelude.{ℕ, ◌+◌, Bool, ◌||◌, not, List, [], ◌∷◌, ◌++◌, map, eqb, ltb, length}
use Rattle.base.specs.Flags.{count_set}
use Rattle.program.specs.declared.sizes.Sizes.{Sizes}
use Rattle.program.specs.Program.{Program}
use Rattle.program.specs.Chosen.{largest}
use Rattle.program.specs.Frames.{end_frame}
use Rattle.program.specs.Writing.{text}
use Rattle.reach.specs.Marks.{front_when, fresh_at}
use Rattle.listing.specs.Listing.{frame_at}

-- ---- the programs of that time

-- the sizes of every program then: 16 routines, 16 nodes a routine (paper: places) and 8 states
abbrev pub old_sizes : Sizes
old_sizes = record { routines = 16; nodes = 16; states = 8 }

-- and no program had more transitions (paper: rule lines)
abbrev pub old_transitions : ℕ
old_transitions = 256

-- a program that could not be one of them (24): some routine has more nodes, or there are more states or more
-- transitions
abbrev pub too_large : Program → Bool
too_large p =
    ltb old_sizes.nodes (largest p.nodes)
    || (ltb old_sizes.states p.automaton.states || ltb old_transitions (length p.automaton.transitions))

-- ---- its old marks (paper: an old sheet): those of a full analysis, in these sizes, so that there are 16,384 flags

abbrev pub old_marks : Program → List ℕ
old_marks p = fresh_at old_sizes p

-- ---- its frames: one 4D f n r q for each configuration that occurs, ascending, and then 45 with their count

-- the numbers of the bytes that are not 0, ascending, from i on
unfoldable pub set_from : List ℕ → ℕ → List ℕ
set_from [] i = []
set_from (b ∷ bs) i = front_when (not (eqb b 0)) i (set_from bs (i + 1))

-- the kind of such a frame
abbrev pub saved_kind : ℕ
saved_kind = 0x4D

-- the text of old marks: a line for each that is set, and the end
unfoldable pub text_of : List ℕ → List ℕ
text_of marks = text (map (frame_at saved_kind old_sizes) (set_from marks 0) ++ end_frame (count_set marks) ∷ [])

-- of a program
abbrev pub saved_text : Program → List ℕ
saved_text p = text_of (old_marks p)
