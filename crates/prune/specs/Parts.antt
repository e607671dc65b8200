-- What the private functions of pruning (paper: the keeping) promise of each other; nothing here has to be believed.
use Rattle.std.specs.Prelude.{ℕ, ◌≤◌, ◌<◌, ◌≡◌, Bool, true, false, cond, length, get_or, set}
use mathlib.Core.List.{List, Memᴰ}
use Rattle.program.specs.declared.sizes.Sizes.{Sizes}
use Rattle.program.specs.Chosen.{numbers}
use Rattle.base.specs.Flags.{is_set, count_set, On}
use Rattle.program.specs.Program.{Program}
use Rattle.reach.specs.Configurations.{number, routine_of, node_of, root_of, state_of, At}
use Rattle.reach.specs.Marks.{Marked}
use Rattle.prune.specs.Pruning.{Kept}
use Rattle.support.specs.Parts.{supports}

module _ (Z : Sizes) where
  -- the configuration of number i is marked, not yet kept, and supported
  unfoldable pub keeps_at : List ℕ → List ℕ → List ℕ → List ℕ → ℕ → Bool
  keeps_at keys next marks kept i =
      cond (is_set marks i) (cond (is_set kept i) false (supports Z keys next kept (routine_of Z i) (node_of Z i) (root_of Z i)
      (state_of Z i))) false

  -- ---- keeping one after another

  -- by keeping, one at a time, what a test of the kept bytes names
  pub data Keeps (test : List ℕ → ℕ → Bool) (old : List ℕ) : List ℕ → Type 0 where
    same : Keeps test old old
    more : {kept : List ℕ} → Keeps test old kept → (i : ℕ) → i < numbers Z → test kept i ≡ true
        → Keeps test old (set kept i 1)

  -- a pass over the numbers from low to below i says whether it has kept more; if not, none of these was to be kept
  pub record Passed (test : List ℕ → ℕ → Bool) (old new : List ℕ) (more : Bool) (low i : ℕ) : Type 0 where
    pub len : length new ≡ length old
    pub keeps : Keeps test old new
    pub grown : more ≡ true → count_set old < count_set new
    pub same_bytes : more ≡ false → new ≡ old
    pub none_left : more ≡ false → (j : ℕ) → low ≤ j → j < i → test old j ≡ false

  -- nothing is left to be kept
  pub record Settled (test : List ℕ → ℕ → Bool) (old new : List ℕ) : Type 0 where
    pub len : length new ≡ length old
    pub keeps : Keeps test old new
    pub none_left : (j : ℕ) → j < numbers Z → test new j ≡ false

  -- ---- what the kept bytes mean

  -- every byte is 0 or 1, and what is kept has support back to a start
  pub record Sound (p : Program) (marks kept : List ℕ) : Type 0 where
    pub len : length kept ≡ numbers Z
    pub bits : (i : ℕ) → get_or kept i 0 ≤ 1
    pub supported : (i : ℕ) → On kept i → At Z (Kept Z p marks) i

  -- the marked starts in a state below x are kept
  pub record Started (p : Program) (marks kept : List ℕ) (x : ℕ) : Type 0 where
    pub sound : Sound p marks kept
    pub starts : (q : ℕ) → q < x → Memᴰ q p.automaton.initial → Marked Z marks 0 0 q q → On kept (number Z 0 0 q q)
