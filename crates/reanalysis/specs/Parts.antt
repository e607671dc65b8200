-- What the functions that decide whether a component is reanalyzed promise of each other; nothing here has to be
-- believed.
use Rattle.std.specs.Prelude.{ℕ, ◌<◌, ◌≡◌, ◌⊎◌, ◌≢◌, Bool, true, false, List, get_or}
use Rattle.program.specs.declared.sizes.Sizes.{Sizes}
use Rattle.program.specs.Program.{Edge, Program, is_call, called_by}
use Rattle.program.specs.Decoded.{edge_of}
use Rattle.base.specs.Flags.{is_set}
use Rattle.reach.specs.Configurations.{number}
use Rattle.reach.specs.Marks.{Marked}
use Rattle.reach.specs.Worklist.{summary}
use Rattle.callgraph.specs.Components.{CallEdge, Member}

-- the summaries of g on the marks are others than before
pub record Differs (Z : Sizes) (before marks : List ℕ) (g : ℕ) : Type 0 where
  pub root : ℕ
  pub state : ℕ
  pub root_small : root < Z.states
  pub state_small : state < Z.states
  pub differs : ((get_or before (summary Z g root state) 0 ≢ 0) × (¬ (Marked Z marks g 1 root state)))
      ⊎ ((get_or before (summary Z g root state) 0 ≡ 0) × Marked Z marks g 1 root state)

-- the one of a root and a state is
abbrev pub DiffersAt : Sizes → List ℕ → List ℕ → ℕ → ℕ → ℕ → Type 0
DiffersAt Z before marks g r q = is_set before (summary Z g r q) ≢ is_set marks (number Z g 1 r q)

-- one of a root is
pub record DiffersWith (Z : Sizes) (before marks : List ℕ) (g root : ℕ) : Type 0 where
  pub state : ℕ
  pub small : state < Z.states
  pub differs : DiffersAt Z before marks g root state

-- a member calls a routine that is none, and whose summaries are others than before
pub record CallsDiffering (Z : Sizes) (p : Program) (members before marks : List ℕ) : Type 0 where
  pub member : ℕ
  pub called : ℕ
  pub is_member : Member members member
  pub calls : CallEdge p member called
  pub outside : ¬ (Member members called)
  pub differing : Differs Z before marks called

-- a test's answer: yes exactly if
pub record Says (yes : Bool) (X : Type 0) : Type 0 where
  pub if_yes : yes ≡ true → X
  pub if_no : yes ≡ false → ¬ X

-- an edge of a member calls a routine that is none, and whose summaries are others than before
pub record DifferingEdge (Z : Sizes) (members before marks : List ℕ) (e : Edge) : Type 0 where
  pub is_member : Member members e.routine
  pub is-call : is_call e.label ≡ true
  pub small : called_by e.label < Z.routines
  pub outside : ¬ (Member members (called_by e.label))
  pub differing : Differs Z before marks (called_by e.label)

-- one of the first edges is such
pub record SomeDiffering (Z : Sizes) (members before marks keys : List ℕ) (count : ℕ) : Type 0 where
  pub at : ℕ
  pub below : at < count
  pub differing : DifferingEdge Z members before marks (edge_of (get_or keys at 0))
