-- What the functions that follow from given marks promise of each other; nothing here has to be believed.
use Rattle.std.specs.Prelude.{ℕ, ◌*◌, ◌≡◌, Bool, cond, not, ◌&&◌, List, map, eqb, ltb, leb, get_or, take}
use Rattle.base.specs.Filled.{Filled}
use Rattle.base.specs.Flags.{is_set}
use Rattle.automaton.specs.NextStates.{Answers}
use Rattle.program.specs.declared.sizes.Sizes.{Sizes}
use Rattle.program.specs.Program.{Program}
use Rattle.program.specs.WellFormed.{WellFormed}
use Rattle.program.specs.Decoded.{edge_of}
use Rattle.reach.specs.Sizes.{summaries}
use Rattle.reach.specs.Configurations.{node_of, exit_at}
use Rattle.reach.specs.Ranged.{Sized}
use Rattle.reach.specs.Marks.{ClosedBut}
use Rattle.words.specs.Words.{flags_of}
use Rattle.marking.specs.Parts.{pending_words}

-- the known summaries are those of the marked exits
pub record Learnt (z : Sizes) (marks known : List ℕ) : Type 0 where
  pub flags : Filled (λ i. cond (is_set marks (exit_at z i)) 1 0) (summaries z) (take (summaries z) (flags_of known))

-- what is pending at the start of a part: of the marked numbers from low up to high those that are no exits
abbrev pub is_first : Sizes → ℕ → ℕ → ℕ → ℕ → Bool
is_first z low high mark i = leb low i && ltb i high && (not (eqb (node_of z i) 1) && not (eqb mark 0))

pub record Awaited (z : Sizes) (low high : ℕ) (marks pending : List ℕ) : Type 0 where
  pub flags : Filled (λ i. cond (is_first z low high (get_or marks i 0) i) 1 0) (pending_words * 64) (flags_of pending)

-- a program has these edges and no others, its automaton these answers, and the marks are closed under its steps but
-- for the numbers from low up to high
pub record Followable (z : Sizes) (p : Program) (steps next : List ℕ) (low high : ℕ) (marks : List ℕ) : Type 0 where
  pub well_formed : WellFormed p
  pub sized : Sized z p
  pub edges : p.edges ≡ map edge_of steps
  pub answers : Answers p.automaton p.routines next
  pub closed : ClosedBut z p low high marks
