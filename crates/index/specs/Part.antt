-- Where the part of one routine begins in the table of edges; nothing here has to be believed.
use Rattle.std.specs.Prelude.{ℕ, ◌≤◌, ◌<◌, List, get_or}
use Rattle.program.specs.Decoded.{edge_of}

-- the first edge, of the keys in use, whose routine is not below f
pub record FirstOf (keys : List ℕ) (count f at : ℕ) : Type 0 where
  pub within : at ≤ count
  pub below : (i : ℕ) → i < at → (edge_of (get_or keys i 0)).routine < f
  pub not-below : at < count → f ≤ (edge_of (get_or keys at 0)).routine
