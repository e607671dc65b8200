-- The tables by which one iteration goes; nothing here has to be believed.
use Rattle.std.specs.Prelude.{ℕ, ◌≡◌, List, map}
use Rattle.automaton.specs.NextStates.{Answers}
use Rattle.index.specs.Index.{Indexed}
use Rattle.program.specs.Program.{Program}
use Rattle.program.specs.WellFormed.{WellFormed}
use Rattle.program.specs.Decoded.{edge_of}
use Rattle.program.specs.declared.sizes.Sizes.{Sizes}
use Rattle.reach.specs.Ranged.{Ranged}

-- the tables are those of this program, which is within the sizes
pub record Tables (z : Sizes) (p : Program) (keys index next : List ℕ) : Type 0 where
  pub well_formed : WellFormed p
  pub ranged : Ranged z p
  pub edges : p.edges ≡ map edge_of keys
  pub indexed : Indexed keys index
  pub answers : Answers p.automaton p.routines next
