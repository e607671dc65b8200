-- What is promised of flags of routines, and of those of a mark more; nothing here has to be believed.
use Rattle.std.specs.Prelude.{ℕ, ◌<◌, ◌↔◌, ◌≢◌, List, get_or}
use Rattle.program.specs.declared.sizes.Sizes.{Sizes}
use Rattle.reach.specs.Marks.{Marked}

-- the flags are set exactly at these routines
pub record FlagsOf (R : ℕ → Type 0) (flags : List ℕ) : Type 0 where
  pub flag : (f : ℕ) → f < 16 → (get_or flags f 0 ≢ 0) ↔ R f

-- some configuration of routine f is marked in the new marks and not in the old
pub record MarkedMore (Z : Sizes) (old new : List ℕ) (f : ℕ) : Type 0 where
  pub node : ℕ
  pub root : ℕ
  pub state : ℕ
  pub now_there : Marked Z new f node root state
  pub not_before : ¬ (Marked Z old f node root state)
