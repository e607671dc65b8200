-- Searches among numbers: the first that meets a test, and whether one does.
use Rattle.std.specs.Prelude.{ℕ, zero, suc, ◌+◌, Bool, false, cond, ◌||◌}

-- the first of k numbers from i on that meets a test; i + k where none does
unfoldable pub seek : (ℕ → Bool) → ℕ → ℕ → ℕ
seek t zero i = i
seek t (suc k) i = cond (t i) i (seek t k (suc i))

-- one of n numbers, from j on, meets a test
unfoldable pub any_from : (ℕ → Bool) → ℕ → ℕ → Bool
any_from t zero j = false
any_from t (suc n) j = t j || any_from t n (j + 1)
