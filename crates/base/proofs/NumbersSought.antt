-- The first number that meets a test: where it is, what it meets and what is passed on the way.
use Prim.Native.Nat.{ℕ, zero, suc, ◌+◌, ◌-◌, ◌≤◌, ◌<◌}
use mathlib.Core.Path.{◌≡◌, refl, ◌∙◌}
use mathlib.Core.Bool.{Bool, true, false, cond}
use native.Mathlib.Numerals.{add-one}
use native.Mathlib.Omega.{arith}
use native.Mathlib.Decide.{ℕ_discrete}
use Rattle.base.specs.Searches.{seek}

-- ---- one number more

pub seek_none : (t : ℕ → Bool) (n : ℕ) → seek t (n - n) n ≡ n
unfolding seek
seek_none t n = let z : n - n ≡ 0 = omega arith in rw z

one_more : (n i : ℕ) → i < n → n - i ≡ suc (n - (i + 1))
one_more n i h = omega arith

pub seek_met : (t : ℕ → Bool) (n i : ℕ) → i < n → t i ≡ true → seek t (n - i) i ≡ i
unfolding seek
seek_met t n i h e = rw (one_more n i h, e)

pub seek_on : (t : ℕ → Bool) (n i : ℕ) → i < n → t i ≡ false → seek t (n - i) i ≡ seek t (n - (i + 1)) (i + 1)
unfolding seek
seek_on t n i h e = rw (one_more n i h, e, add-one)

-- ---- the laws that loops cite

pub seek_at_least : (t : ℕ → Bool) (k i : ℕ) → i ≤ seek t k i
unfolding seek
seek_at_least t zero i = omega arith
seek_at_least t (suc k) i = go i (t i) (seek_at_least t k (suc i))
  where
    go : (i : ℕ) {x : ℕ} (b : Bool) → suc i ≤ x → i ≤ cond b i x
    go i true h = omega arith
    go i false h = omega arith

pub seek_at_most : (t : ℕ → Bool) (k i : ℕ) → seek t k i ≤ i + k
unfolding seek
seek_at_most t zero i = omega arith
seek_at_most t (suc k) i = go k i (t i) (seek_at_most t k (suc i))
  where
    go : (k i : ℕ) {x : ℕ} (b : Bool) → x ≤ suc i + k → cond b i x ≤ i + suc k
    go k i true h = omega arith
    go k i false h = omega arith

pub seek_meets : (t : ℕ → Bool) (k i : ℕ) → seek t k i < i + k → t (seek t k i) ≡ true
unfolding seek
seek_meets t zero i h = absurd (omega arith)
seek_meets t (suc k) i h = go t k i (seek t k (suc i)) (seek_meets t k (suc i)) (t i) refl h
  where
    go : (t : ℕ → Bool) (k i x : ℕ) → (x < suc i + k → t x ≡ true) → (b : Bool) → t i ≡ b → cond b i x < i + suc k → t (cond b i x) ≡ true
    go t k i x f true e h = e
    go t k i x f false e h = f (omega arith)

pub seek_passes : (t : ℕ → Bool) (k i j : ℕ) → i ≤ j → j < seek t k i → t j ≡ false
unfolding seek
seek_passes t zero i j h l = absurd (omega arith)
seek_passes t (suc k) i j h l = go t i j (seek t k (suc i)) (seek_passes t k (suc i) j) (t i) refl h l
  where
    go : (t : ℕ → Bool) (i j x : ℕ) → (suc i ≤ j → j < x → t j ≡ false) → (b : Bool) → t i ≡ b → i ≤ j → j < cond b i x → t j ≡ false
    go t i j x f true e h l = absurd (omega arith)
    go t i j x f false e h l = elim (ℕ_discrete j i) [ yes d ↦ rw d e | no d ↦ f (omega arith) l ]

-- ---- tests that are met alike find the same

pub seek_same : {t u : ℕ → Bool} (k i : ℕ) → ((j : ℕ) → j < i + k → t j ≡ u j) → seek t k i ≡ seek u k i
unfolding seek
seek_same zero i h = refl
seek_same (suc k) i h = rw (h i (omega arith), seek_same k (suc i) (λ j l. h j (omega arith))) refl

-- ---- d numbers that fail are passed

pub seek_past : (t : ℕ → Bool) (n d i : ℕ) → i + d ≤ n → ((j : ℕ) → i ≤ j → j < i + d → t j ≡ false) → seek t (n - i) i ≡ seek t (n - (i + d)) (i + d)
seek_past t n zero i h f = let e : i + 0 ≡ i = omega arith in rw e refl
seek_past t n (suc d) i h f =
    let e : i + 1 + d ≡ i + suc d = omega arith in
    seek_on t n i (omega arith) (f i (omega arith) (omega arith))
    ∙ rw e at (seek_past t n d (i + 1) (omega arith) (λ j a b. f j (omega arith) (omega arith)))
