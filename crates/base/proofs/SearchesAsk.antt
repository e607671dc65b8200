-- Whether one of several meets a test: a loop tries them in turn, and one that does is there.
use mathlib.Core.Path.{◌≡◌, refl}
use mathlib.Core.Bool.{Bool, true, false, ◌&&◌, ◌||◌, or-true}
use Prim.Native.Nat.{ℕ, zero, suc, ◌+◌, ◌-◌, ◌≤◌, ◌<◌}
use native.Mathlib.Omega.{arith}
use native.Mathlib.Decide.{ℕ_discrete}
use Rattle.base.proofs.Bools.{either, never}
use Rattle.base.specs.Searches.{any_from}

-- ---- a test of two parts: the second is asked only where the first is met

pub both_met : {a b : Bool} → a ≡ true → b ≡ true → a && b ≡ true
both_met h k = rw (h, k) refl

pub first_fails : {a : Bool} (b : Bool) → a ≡ false → a && b ≡ false
first_fails b h = rw h refl

pub second_fails : {a b : Bool} → a ≡ true → b ≡ false → a && b ≡ false
second_fails h k = rw (h, k) refl

-- ---- numbers

-- a loop tries n numbers in turn: those from j on decide
pub record Trying (t : ℕ → Bool) (n j : ℕ) : Type 0 where
  pub far : j ≤ n
  pub decide : any_from t (n - j) j ≡ any_from t n 0

pub try_all : (t : ℕ → Bool) (n : ℕ) → Trying t n 0
try_all t n = let e : n - 0 ≡ n = omega arith in record { far = omega arith; decide = rw e refl }

module _ {t : ℕ → Bool} {n j : ℕ} (y : Trying t n j) where
  here : j < n → t j || any_from t (n - (j + 1)) (j + 1) ≡ any_from t n 0
  unfolding any_from
  here h = let e : n - j ≡ suc (n - (j + 1)) = omega arith in rw e at y.decide

  pub try_found : j < n → t j ≡ true → true ≡ any_from t n 0
  try_found h e = rw e at (here h)

  pub try_next : j < n → t j ≡ false → Trying t n (j + 1)
  try_next h e = record { far = omega arith; decide = rw e at (here h) }

  pub try_none : n ≤ j → false ≡ any_from t n 0
  unfolding any_from
  try_none h = let e : n - j ≡ 0 = omega arith in rw e at y.decide

pub record FoundFrom (t : ℕ → Bool) (n j : ℕ) : Type 0 where
  pub at : ℕ
  pub above : j ≤ at
  pub below : at < j + n
  pub test : t at ≡ true

pub found_from : (t : ℕ → Bool) (n j : ℕ) → any_from t n j ≡ true → FoundFrom t n j
unfolding any_from
found_from t zero j h = never h refl
found_from t (suc n) j h =
    either (t j) (any_from t n (j + 1)) h
    (λ e. record { at = j; above = omega arith; below = omega arith; test = e })
    (λ e.
    let z = found_from t n (j + 1) e in
    record { at = z.at; above = omega (arith, z.above); below = omega (arith, z.below); test = z.test })

pub any-from : (t : ℕ → Bool) (n j k : ℕ) → j ≤ k → k < j + n → t k ≡ true → any_from t n j ≡ true
unfolding any_from
any-from t zero j k a b e = absurd (omega arith)
any-from t (suc n) j k a b e =
    elim (ℕ_discrete j k) [
      | yes z ↦ rw (z, e)
      | no z ↦ rw (any-from t n (j + 1) k (omega arith) (omega arith) e, or-true (t j))
    ]
