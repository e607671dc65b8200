-- The rules of the frames that marks are saved as, by themselves: what a text has to meet to be a program's.
use Rattle.std.specs.Prelude.{ℕ, ◌+◌, ◌*◌, ◌≡◌, ◌↔◌}
use Rattle.std.proofs.Math.Option.{some}
use mathlib.Core.List.{List, [], ◌∷◌, Memᴰ}
use Rattle.text.specs.Lines.{lines, numbers_of}
use Rattle.program.specs.Program.{Program}
use Rattle.reach.specs.declared.configuration.Configuration.{Configuration}
use Rattle.reach.specs.Configurations.{Earlier}
use Rattle.reach.specs.Runs.{Occurs}
use Rattle.saved.specs.Saved.{saved_kind}

-- lines, after so many: each is pairs of digits 0-9 A-F and 0A; a frame 4D has four numbers, the parts of a
-- configuration; the frame 45 has two, how many frames came before it, high number first; and nothing follows it
pub data FrameLines : ℕ → List (List ℕ) → List Configuration → Type 0 where
  saved : {before : ℕ} {l : List ℕ} {ls : List (List ℕ)} {c : Configuration} {cs : List Configuration}
      → numbers_of l ≡ some (saved_kind ∷ c.routine ∷ c.node ∷ c.root ∷ c.state ∷ [])
      → FrameLines (before + 1) ls cs → FrameLines before (l ∷ ls) (c ∷ cs)
  ended : {before high low : ℕ} {l : List ℕ} → numbers_of l ≡ some (0x45 ∷ high ∷ low ∷ [])
      → high * 256 + low ≡ before → FrameLines before (l ∷ []) []

-- one configuration before another, compared left to right
abbrev pub Precedes : Configuration → Configuration → Type 0
Precedes c d = Earlier c.routine c.node c.root c.state d.routine d.node d.root d.state

-- each before the next
pub data Rising : List Configuration → Type 0 where
  none : Rising []
  one : {c : Configuration} → Rising (c ∷ [])
  more : {c d : Configuration} {cs : List Configuration} → Precedes c d → Rising (d ∷ cs) → Rising (c ∷ d ∷ cs)

-- a text that is a program's frames
pub record Saves (p : Program) (s : List ℕ) : Type 0 where
  pub listed : List Configuration
  -- its lines are frames of these configurations, and the end with their count
  pub frames : FrameLines 0 (lines s) listed
  -- which ascend
  pub rising : Rising listed
  -- and are exactly those that occur: some run of the program arrives there
  pub exact : (c : Configuration) → Memᴰ c listed ↔ Occurs p c.routine c.node c.root c.state
