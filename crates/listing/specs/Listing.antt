-- Marked configurations as frames (paper: standings), a line each.
use Rattle.std.specs.Prelude.{ℕ, ◌+◌, Bool, ◌&&◌, not, List, [], ◌∷◌, map, eqb}
use Rattle.base.specs.Flags.{is_set}
use Rattle.program.specs.declared.sizes.Sizes.{Sizes}
use Rattle.reach.specs.Configurations.{routine_of, node_of, root_of, state_of}
use Rattle.reach.specs.Marks.{front_when}

-- the frame of a configuration, by its number in these sizes: a kind, and its parts
abbrev pub frame_at : ℕ → Sizes → ℕ → List ℕ
frame_at kind Z i = kind ∷ routine_of Z i ∷ node_of Z i ∷ root_of Z i ∷ state_of Z i ∷ []

-- configuration i, whose byte of the marks is b, is marked, and its present state has a flag
abbrev pub is_listed : Sizes → List ℕ → ℕ → ℕ → Bool
is_listed Z states b i = not (eqb b 0) && is_set states (state_of Z i)

-- the numbers of the marked configurations whose present state has a flag, ascending, from i on
unfoldable pub listed_from : Sizes → List ℕ → List ℕ → ℕ → List ℕ
listed_from Z states [] i = []
listed_from Z states (b ∷ bs) i = front_when (is_listed Z states b i) i (listed_from Z states bs (i + 1))

-- their frames
abbrev pub listing : ℕ → Sizes → List ℕ → List ℕ → List (List ℕ)
listing kind Z states marks = map (frame_at kind Z) (listed_from Z states marks 0)

-- each line has so many bytes: five numbers, two digits each, and 0A
abbrev pub line_size : ℕ
line_size = 11
