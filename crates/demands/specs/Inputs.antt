-- What the pass over a component is given: its own edges, its old roots, the automaton and the summaries of the routines
-- that it calls (paper: a group pass depends only on its own steps, old roots, the rule and the pairs of routines it
-- calls).
use Rattle.std.specs.Prelude.{ℕ, ◌≡◌, ◌↔◌, List}
use Rattle.program.specs.declared.sizes.Sizes.{Sizes}
use Rattle.program.specs.Program.{Program}
use Rattle.callgraph.specs.Components.{CallEdge, member_of, Member}
use Rattle.passes.specs.Passes.{edges_of, ExitOf}
use Rattle.roots.specs.Roots.{RootOf}

-- two passes over the same routines, of any two programs and marks, in any two sizes, that are given the same
pub record SameInputs (Z Z' : Sizes) (members : List ℕ) (p p' : Program) (old old' marks marks' : List ℕ) : Type 0 where
  -- the edges of the routines of the component, in their order
  pub edges : edges_of (member_of members) p.edges ≡ edges_of (member_of members) p'.edges
  pub automaton : p.automaton ≡ p'.automaton
  -- the old roots of the routines of the component
  pub roots : (f r : ℕ) → Member members f → RootOf old f r ↔ RootOf old' f r
  -- the summaries of the routines outside the component that an edge of it calls
  pub summaries : (f g r q : ℕ) → Member members f → CallEdge p f g → ¬ (Member members g) → ExitOf Z marks g r q
      ↔ ExitOf Z' marks' g r q
