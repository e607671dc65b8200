-- Marks in other sizes, byte by byte.
use Rattle.std.specs.Prelude.{ℕ, ◌≡◌, cond, List, ltb, get_or}
use Rattle.program.specs.declared.sizes.Sizes.{Sizes}
use Rattle.reach.specs.Configurations.{number, routine_of, node_of, root_of, state_of}

-- the sizes differ in the nodes only, as an exchange makes them differ
pub record Alike (Z Y : Sizes) : Type 0 where
  pub routines : Z.routines ≡ Y.routines
  pub states : Z.states ≡ Y.states

-- the byte, in sizes Z, of the configuration that has number i in sizes Y; 0 for a node that Z does not have
abbrev pub renumbered : Sizes → Sizes → List ℕ → ℕ → ℕ
renumbered Z Y old i = cond (ltb (node_of Y i) Z.nodes) (get_or old (number Z (routine_of Y i) (node_of Y i) (root_of Y i) (state_of Y i)) 0) 0
