-- Loops that search: over a chained list of the index for the first edge that meets a second test too, and over all
-- numbers from one on.
use Prim.Native.Nat.{ℕ, ◌+◌, ◌-◌, ◌≤◌, ◌<◌}
use mathlib.Core.Path.{◌≡◌, refl, sym, ◌∙◌}
use mathlib.Core.Bool.{Bool, true, false, ◌&&◌}
use native.Mathlib.Omega.{arith}
use Rattle.base.specs.Searches.{seek}
use Rattle.base.proofs.NumbersSought.{seek_none, seek_met, seek_on, seek_past, seek_at_least, seek_at_most, seek_meets, seek_passes}
use Rattle.base.proofs.SearchesAsk.{both_met, first_fails, second_fails}

-- ---- every number from low on in turn

-- at i those from i on decide
pub record Seeking (t : ℕ → Bool) (n low i : ℕ) : Type 0 where
  pub from : low ≤ i
  pub decide : seek t (n - i) i ≡ seek t (n - low) low

pub seek_start : (t : ℕ → Bool) (n low : ℕ) → Seeking t n low low
seek_start t n low = record { from = omega arith; decide = refl }

module _ {t : ℕ → Bool} {n low i : ℕ} (s : Seeking t n low i) where
  pub seek_next : i < n → t i ≡ false → Seeking t n low (i + 1)
  seek_next h e = record { from = omega (arith, s.from); decide = sym (seek_on t n i h e) ∙ s.decide }

  pub seek_here : i < n → t i ≡ true → seek t (n - low) low ≡ i
  seek_here h e = sym s.decide ∙ seek_met t n i h e

  -- past the end
  pub seek_out : n ≤ i → n ≤ seek t (n - low) low
  seek_out h = let e = s.decide in omega (arith, seek_at_least t (n - i) i)

-- ---- the numbers of a chained list, which has those that meet the first test

module _ (t u : ℕ → Bool) where
  abbrev and : ℕ → Bool
  and j = t j && u j

  -- at i those from i on decide, and i meets the first test if it is one
  pub record Chained (n i : ℕ) : Type 0 where
    pub far : i ≤ n
    pub meets : i < n → t i ≡ true
    pub decide : seek and (n - i) i ≡ seek and n 0

  -- from j on the next of the list is tried
  jump : (n j i : ℕ) → j ≤ n → seek and (n - j) j ≡ seek and n 0 → i ≡ seek t (n - j) j → Chained n i
  jump n j i h d e =
      let low = seek_at_least t (n - j) j in
      let high = seek_at_most t (n - j) j in
      let z : j + (i - j) ≡ i = omega (arith, e, low) in
      let past = seek_past and n (i - j) j (omega (arith, e, high)) (λ k a b. first_fails (u k) (seek_passes t (n - j) j k a (omega (arith, e)))) in
      record {
        far = omega (arith, e, high);
        meets = λ l. rw e (seek_meets t (n - j) j (omega (arith, e)));
        decide = sym (rw z at past) ∙ d;
      }

  pub chain_start : (n : ℕ) {i : ℕ} → i ≡ seek t n 0 → Chained n i
  chain_start n {i} e = let z : n - 0 ≡ n = omega arith in jump n 0 i (omega arith) (rw z refl) (rw z e)

  module _ {n i : ℕ} (c : Chained n i) where
    pub chain_next : {k : ℕ} → i < n → u i ≡ false → k ≡ seek t (n - (i + 1)) (i + 1) → Chained n k
    chain_next {k} h e s = jump n (i + 1) k (omega arith) (sym (seek_on and n i h (second_fails (c.meets h) e)) ∙ c.decide) s

    pub chain_here : i < n → u i ≡ true → i ≡ seek and n 0
    chain_here h e = sym (seek_met and n i h (both_met (c.meets h) e)) ∙ c.decide

    pub chain_end : n ≤ i → i ≡ seek and n 0
    chain_end h =
        let z : i ≡ n = omega (arith, c.far) in
        z ∙ sym (seek_none and n) ∙ rw z at c.decide
