-- Roots: a set of them as flags, and the roots that occur.
use Rattle.std.specs.Prelude.{ℕ, ◌<◌, ◌≢◌, get_or}
use mathlib.Core.List.{List, Memᴰ}
use Rattle.automaton.specs.Sizes.{max_states}
use Rattle.automaton.specs.declared.Event.TheVariants.{Call}
use Rattle.program.specs.Sizes.{max_routines}
use Rattle.program.specs.declared.sizes.Sizes.{Sizes}
use Rattle.program.specs.Program.{Program}
use Rattle.reach.specs.Configurations.{Set, root_place}
use Rattle.reach.specs.Runs.{HasStep, Moves}
use Rattle.reach.specs.Marks.{Marked}

-- r is a root of f, by a flag for each
abbrev pub RootOf : List ℕ → ℕ → ℕ → Type 0
RootOf roots f r = (f < max_routines) × (r < max_states) × (get_or roots (root_place f r) 0 ≢ 0)

-- the roots that occur, by the configurations of M: an initial state is one of the main routine, and the state after a
-- call's move, the call of g by a configuration whose own root occurs, is one of g
pub data Live (p : Program) (M : Set) : ℕ → ℕ → Type 0 where
  begun : {q : ℕ} → Memᴰ q p.automaton.initial → Live p M 0 q
  called : {f n r q g m s : ℕ} → Live p M f r → M f n r q → HasStep p f n (Call g) m → Moves p q (Call g) s
      → Live p M g s

-- the marked configurations whose roots occur, by the marks themselves
abbrev pub LiveMarked : Sizes → Program → List ℕ → Set
LiveMarked z p marks f n r q = Live p (Marked z marks) f r × Marked z marks f n r q
