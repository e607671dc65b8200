-- A program within some sizes: what the laws of the analysis ask of a program, and nothing else.
use Rattle.std.specs.Prelude.{ℕ, ◌<◌, ◌≤◌, ◌≢◌}
use mathlib.Core.List.{Memᴰ}
use Rattle.automaton.specs.declared.Event.{Event}
use Rattle.automaton.specs.declared.Event.TheVariants.{Call}
use Rattle.program.specs.declared.sizes.Sizes.{Sizes}
use Rattle.program.specs.Program.{Program}
use Rattle.program.specs.Chosen.{Admitted}
use Rattle.reach.specs.Configurations.{Usable}
use Rattle.reach.specs.Runs.{HasStep, Moves}

pub record Ranged (Z : Sizes) (p : Program) : Type 0 where
  pub main : 0 < Z.routines
  pub routines : p.routines ≤ Z.routines
  pub routine : {f n m : ℕ} {l : Event} → HasStep p f n l m → f < Z.routines
  pub source : {f n m : ℕ} {l : Event} → HasStep p f n l m → n < Z.nodes
  pub target : {f n m : ℕ} {l : Event} → HasStep p f n l m → m < Z.nodes
  pub called : {f n m g : ℕ} → HasStep p f n (Call g) m → g < Z.routines
  pub no_exit : {f n m : ℕ} {l : Event} → HasStep p f n l m → n ≢ 1
  pub states : p.automaton.states ≤ Z.states
  pub after : (q : ℕ) (e : Event) (s : ℕ) → Moves p q e s → s < p.automaton.states
  pub begun : {q : ℕ} → Memᴰ q p.automaton.initial → q < p.automaton.states

-- sizes in which the code can work a program
pub record Sized (Z : Sizes) (p : Program) : Type 0 where
  pub usable : Usable Z
  pub admitted : Admitted Z
  pub ranged : Ranged Z p
