-- Quotients as products: what the code that splits many numbers promises of them; nothing here has to be believed.
use Rattle.std.specs.Prelude.{ℕ, ◌*◌, ◌/◌, ◌^◌, ◌<◌, ◌≤◌, ◌≡◌}
use Rattle.program.specs.declared.sizes.Sizes.{Sizes}
use Rattle.reach.specs.Sizes.{root_span, node_span, routine_span}

-- a product with m, cut off, is the quotient by d of a number that is small enough
pub record Reciprocal (d m : ℕ) : Type 0 where
  pub small : m ≤ 2 ^ 33
  pub divides : (i : ℕ) → i < 2 ^ 16 → i * m / 2 ^ 32 ≡ i / d

-- these are the reciprocals for numbers in these sizes
pub record Splits (Z : Sizes) (root node routine : ℕ) : Type 0 where
  pub by_root : Reciprocal (root_span Z) root
  pub by_node : Reciprocal (node_span Z) node
  pub by_routine : Reciprocal (routine_span Z) routine
