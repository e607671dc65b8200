-- In a table that ascends, the keys between two places are those between two numbers.
use Prim.Native.Nat.{ℕ, zero, suc, ◌-◌, ◌≤◌, ◌<◌}
use mathlib.Core.List.{List, [], ◌∷◌, map}
use native.Mathlib.Omega.{arith}
use native.Mathlib.Decide.{ℕ_discrete}
use lib.ListN.{length, get_or}
use Rattle.tables.specs.Keys.{Ascending, FirstFrom}

-- no key is below one before it
pub record Rising (ks : List ℕ) : Type 0 where
  pub up : (i j : ℕ) → i ≤ j → j < length ks → get_or ks i 0 ≤ get_or ks j 0

-- keys rise where what they are compared by ascends
module _ (g : ℕ → ℕ) (back : (k l : ℕ) → g k < g l → k ≤ l) where
  above : (low : ℕ) (ks : List ℕ) → Ascending low (map g ks) → (j : ℕ) → j < length ks → low < g (get_or ks j 0)
  unfolding Ascending
  above low [] a j h = absurd (omega arith)
  above low (k ∷ ks) a zero h = a.0
  above low (k ∷ ks) a (suc j) h = let x = above (g k) ks a.1 j (omega arith) in omega (arith, a.0)

  up : (low : ℕ) (ks : List ℕ) → Ascending low (map g ks) → (i j : ℕ) → i ≤ j → j < length ks → get_or ks i 0 ≤ get_or ks j 0
  unfolding Ascending
  up low [] a i j l h = absurd (omega arith)
  up low (k ∷ ks) a zero zero l h = omega arith
  up low (k ∷ ks) a zero (suc j) l h = back k (get_or ks j 0) (above (g k) ks a.1 j (omega arith))
  up low (k ∷ ks) a (suc i) zero l h = absurd (omega arith)
  up low (k ∷ ks) a (suc i) (suc j) l h = up (g k) ks a.1 i j (omega arith) (omega arith)

  pub ascending_rising : (low : ℕ) (ks : List ℕ) → Ascending low (map g ks) → Rising ks
  ascending_rising low ks a = record { up = up low ks a }

-- from the first that is not below one number to the first that is not below another
module _ {low high : ℕ} {ks : List ℕ} {a b : ℕ} (x : FirstFrom low ks a) (y : FirstFrom high ks b) where
  pub starts_before : low ≤ high → a ≤ b
  starts_before l =
      elim (ℕ_discrete (a - b) 0) [
        | yes e ↦ omega arith
        | no e ↦ absurd (omega (arith, x.below b (omega arith), y.not-below (omega (arith, x.within))))
      ]

  module _ (r : Rising ks) where
    pub between : (j : ℕ) → a ≤ j → j < b → (low ≤ get_or ks j 0) × (get_or ks j 0 < high)
    between j l h =
        let z : j < length ks = omega (arith, y.within) in
        (omega (arith, x.not-below (omega arith), r.up a j l z), y.below j h)

    pub only_between : (j : ℕ) → j < length ks → low ≤ get_or ks j 0 → get_or ks j 0 < high → (a ≤ j) × (j < b)
    only_between j h l m = (
      elim (ℕ_discrete (a - j) 0) [ yes e ↦ omega arith | no e ↦ absurd (omega (arith, x.below j (omega arith))) ],
      elim (ℕ_discrete (b - j) 0) [
        | yes e ↦ absurd (omega (arith, y.not-below (omega arith), r.up b j (omega arith) h))
        | no e ↦ omega arith
      ],
    )
