-- Parts of numbers that are found by comparing and subtracting, or counted up beside a number: what the code promises of
-- its steps; nothing here has to be believed.
use Rattle.std.specs.Prelude.{ℕ, ◌+◌, ◌*◌, ◌<◌, ◌≤◌, ◌≡◌}
use Rattle.program.specs.declared.sizes.Sizes.{Sizes}
use Rattle.program.specs.Chosen.{numbers}
use Rattle.reach.specs.declared.configuration.Configuration.{Configuration}
use Rattle.reach.specs.declared.spans.Spans.{Spans}
use Rattle.reach.specs.Sizes.{node_span, routine_span}
use Rattle.reach.specs.Configurations.{number, PartsOf}

-- a span was taken off a number so many times, and what is left is below it
pub record TakenOff (i span times left : ℕ) : Type 0 where
  pub is : times * span + left ≡ i
  pub less : left < span
  pub few : times ≤ i

module _ (Z : Sizes) where
  -- these are the spans of a node and of a routine
  pub record SpansOf (s : Spans) : Type 0 where
    pub node : s.node ≡ node_span Z
    pub routine : s.routine ≡ routine_span Z

  -- the number of the first state with the routine, the node and the root of a configuration
  abbrev pub root_start : Configuration → ℕ
  root_start c = number Z c.routine c.node c.root 0

  -- these parts are those of a number that is below the length of the marks
  abbrev pub Beside : ℕ → Configuration → Type 0
  Beside i c = i < numbers Z → PartsOf Z i c.routine c.node c.root c.state

  -- parts that have been counted up to a number: one after the last is in no routine of the program
  pub record Counted (i : ℕ) (c : Configuration) : Type 0 where
    pub node : c.node < Z.nodes
    pub root : c.root < Z.states
    pub state : c.state < Z.states
    pub is : number Z c.routine c.node c.root c.state ≡ i
