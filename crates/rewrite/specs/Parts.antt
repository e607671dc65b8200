-- What the private functions ask of each other; nothing here has to be believed.
use Rattle.std.specs.Prelude.{ℕ, ◌≤◌, ◌≡◌, List, length}
use Rattle.program.specs.Sizes.{output_size}
use Rattle.program.specs.declared.sizes.Sizes.{Sizes}
use Rattle.program.specs.Chosen.{numbers}

-- the buffers of an exchange have the lengths that its sizes before and after ask for
pub record Measured (z y : Sizes) (marks output work second : List ℕ) : Type 0 where
  pub marks-length : length marks ≡ numbers z
  pub output_length : output_size ≤ length output
  pub second_length : length second ≡ numbers y
  pub work_before : numbers z ≤ length work
  pub work-after : numbers y ≤ length work
