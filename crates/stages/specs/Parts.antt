-- What the stages of an exchange ask and promise; nothing here has to be believed.
use Rattle.std.specs.Prelude.{ℕ, ◌≤◌, ◌≡◌, List, length, replicate}
use Rattle.program.specs.declared.sizes.Sizes.{Sizes}
use Rattle.program.specs.Program.{Program}
use Rattle.program.specs.WellFormed.{WellFormed}
use Rattle.program.specs.Chosen.{sizes_of, numbers}
use Rattle.reach.specs.Marks.{fresh_at}
use Rattle.exchange.specs.Changes.{Exchange}
use Rattle.exchange.specs.Changing.{exchanged_program}
use Rattle.exchange.specs.Wanted.{Fits}

-- an exchange that is not refused, with the sizes before it and after it: only the largest count of nodes may differ
pub record Exchanges (Z Y : Sizes) (x : Exchange) (p : Program) : Type 0 where
  pub well_formed : WellFormed p
  pub fits : Fits x p
  pub before : Z ≡ sizes_of p
  pub after : Y ≡ sizes_of (exchanged_program x p)

-- what is lent to it: the program's own marks, a second buffer for those of the exchanged program, and a working buffer
-- that is long enough for both
pub record Buffers (Z Y : Sizes) (p : Program) (marks second work : List ℕ) : Type 0 where
  pub own : marks ≡ fresh_at Z p
  pub room : length second ≡ numbers Y
  pub before : numbers Z ≤ length work
  pub after : numbers Y ≤ length work

-- the program is the wanted one, the second buffer has its own marks in its own sizes, and the whole working buffer,
-- which may be longer, is all zero
pub record Exchanged (Y : Sizes) (wanted p : Program) (second work : List ℕ) : Type 0 where
  pub is_wanted : p ≡ wanted
  pub own : second ≡ fresh_at Y p
  pub clear : work ≡ replicate (length work) 0
