-- What is meant by a violation (paper: a finding), by the list of them and by the next one.
use Rattle.std.specs.Prelude.{ℕ, ◌+◌, ◌≤◌, ◌<◌, ◌≡◌, true, List, [], ◌∷◌}
use Rattle.std.proofs.Math.Option.{Option, none, some}
use Rattle.program.specs.declared.sizes.Sizes.{Sizes}
use Rattle.program.specs.Chosen.{numbers}
use Rattle.automaton.specs.Automaton.{is_rejecting}
use Rattle.program.specs.Program.{Program}
use Rattle.reach.specs.Configurations.{routine_of, node_of, root_of, state_of}
use Rattle.reach.specs.Runs.{Occurs}

-- the number of a configuration that occurs, its state a rejecting one now
pub record Violation (Z : Sizes) (p : Program) (i : ℕ) : Type 0 where
  pub inside : i < numbers Z
  pub occurs : Occurs p (routine_of Z i) (node_of Z i) (root_of Z i) (state_of Z i)
  pub rejects : is_rejecting p.automaton (state_of Z i) ≡ true

-- numbers that ascend: each is at least low, and the next is above it
pub data Ascends : ℕ → List ℕ → Type 0 where
  all_passed : {low : ℕ} → Ascends low []
  rises : {low v : ℕ} {vs : List ℕ} → low ≤ v → Ascends (v + 1) vs → Ascends low (v ∷ vs)

-- the first number with A that is not below low: the least of those, or none where there are none
pub data First (A : ℕ → Type 0) (low : ℕ) : Option ℕ → Type 0 where
  nowhere : ((w : ℕ) → A w → w < low) → First A low none
  at : {v : ℕ} → A v → low ≤ v → ((w : ℕ) → A w → low ≤ w → v ≤ w) → First A low (some v)
