-- The pass over a component (paper: working a group anew): what it derives, and what it leaves on the sheet.
use Rattle.std.specs.Prelude.{ℕ, ◌≤◌, ◌≡◌, ◌↔◌, List, [], ◌∷◌, Bool, cond, length, get_or}
use Rattle.program.specs.declared.sizes.Sizes.{Sizes}
use Rattle.program.specs.Chosen.{numbers}
use Rattle.program.specs.Program.{Edge, Program}
use Rattle.reach.specs.Configurations.{Set}
use Rattle.reach.specs.Reachable.{Derivable, Any}
use Rattle.reach.specs.Marks.{Marked}
use Rattle.callgraph.specs.Components.{member_of, Member}
use Rattle.roots.specs.Roots.{RootOf}

-- the edges of the routines that pass a test, in their order
unfoldable pub edges_of : (ℕ → Bool) → List Edge → List Edge
edges_of c [] = []
edges_of c (e ∷ es) = cond (c e.routine) (e ∷ edges_of c es) (edges_of c es)

-- a program with the edges of these routines only
abbrev pub only_of : (ℕ → Bool) → Program → Program
only_of c p = record { routines = p.routines; nodes = p.nodes; edges = edges_of c p.edges; automaton = p.automaton }

-- what a pass starts from: the entries of its routines with their roots R, and the summaries K of the routines outside
pub data PassSeeds (C : ℕ → Type 0) (R : ℕ → ℕ → Type 0) (K : ℕ → ℕ → ℕ → Type 0) : ℕ → ℕ → ℕ → ℕ → Type 0 where
  entry : {f r : ℕ} → C f → R f r → PassSeeds C R K f 0 r r
  summary : {g r q : ℕ} → ¬ (C g) → K g r q → PassSeeds C R K g 1 r q

-- the summaries on marks
abbrev pub ExitOf : Sizes → List ℕ → ℕ → ℕ → ℕ → Type 0
ExitOf Z marks g r q = Marked Z marks g 1 r q

-- what a pass over these routines derives: by their own edges, from their roots and the summaries of the others
abbrev pub PassOf : Sizes → Program → List ℕ → List ℕ → List ℕ → Set
PassOf Z p members roots marks =
    Derivable (only_of (member_of members) p) (PassSeeds (Member members) (RootOf roots) (ExitOf Z marks)) Any

-- a pass is done: its routines have what it derives, and the others have what they had
pub record Passed (Z : Sizes) (p : Program) (members roots marks marks' : List ℕ) : Type 0 where
  pub marks-length : length marks' ≡ numbers Z
  pub marks_bits : (i : ℕ) → get_or marks' i 0 ≤ 1
  pub inside : (f n r q : ℕ) → Member members f → Marked Z marks' f n r q ↔ PassOf Z p members roots marks f n r q
  pub outside : (f n r q : ℕ) → ¬ (Member members f) → Marked Z marks' f n r q ↔ Marked Z marks f n r q
