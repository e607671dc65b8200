-- Loops over a chained list of the index: they take the steps of the edges that meet a test, and pass over the others.
use Prim.Native.Nat.{ℕ, ◌<◌, ◌+◌, ◌-◌}
use mathlib.Core.Path.{◌≡◌}
use mathlib.Core.Bool.{Bool, true, false}
use mathlib.Core.List.{List}
use native.Mathlib.Omega.{arith}
use lib.ListN.{length}
use Rattle.base.specs.Searches.{seek}
use Rattle.base.proofs.NumbersSought.{seek_at_least, seek_at_most, seek_meets, seek_passes}
use Rattle.reach.specs.Worklist.{Worklist}
use Rattle.marking.specs.Parts.{Becomes, Lowers}
use Rattle.marking.proofs.StepsMark.{Looping, loop_start, loop_turn, loop_skip}

-- where the test fails the step does nothing
pub record Passes (t : ℕ → Bool) (f : ℕ → Worklist → Worklist) : Type 0 where
  pub passes : (x : ℕ) → t x ≡ false → (s : Worklist) → f x s ≡ s

-- at i the edges from there on are left, and edge i meets the test if there is one
pub record Chasing (t : ℕ → Bool) (f : ℕ → Worklist → Worklist) (n : ℕ) (m₀ w₀ : List ℕ) (low₀ i : ℕ) (m w : List ℕ) (low : ℕ) : Type 0 where
  pub looping : Looping f n m₀ w₀ low₀ i m w low
  pub meets : i < n → t i ≡ true

-- from j on the first that meets the test is the next
chase : {t : ℕ → Bool} {f : ℕ → Worklist → Worklist} {n : ℕ} {m₀ w₀ : List ℕ} {low₀ j : ℕ} {m w : List ℕ} {low i : ℕ} → Passes t f
    → Looping f n m₀ w₀ low₀ j m w low → i ≡ seek t (n - j) j → Chasing t f n m₀ w₀ low₀ i m w low
chase {t} {f} {n} {j = j} {i = i} p l e =
    let h = l.within in
    record {
      looping = loop_skip l (rw e (seek_at_least t (n - j) j)) (omega (arith, e, seek_at_most t (n - j) j))
          (record { idle = λ x a b s. p.passes x (seek_passes t (n - j) j x a (rw e at b)) s });
      meets = λ k. rw e (seek_meets t (n - j) j (omega (arith, e)));
    }

pub chase_start : {t : ℕ → Bool} {f : ℕ → Worklist → Worklist} {n i : ℕ} (m w : List ℕ) (low : ℕ) → Passes t f → i ≡ seek t n 0 → Chasing t f n m w low i m w low
chase_start {t} {f} {n} m w low p e =
    chase p (loop_start f n m w low) (let z : n - 0 ≡ n = omega arith in rw z e)

module _ {t : ℕ → Bool} {f : ℕ → Worklist → Worklist} {n : ℕ} {m₀ w₀ : List ℕ} {low₀ i : ℕ} {m w : List ℕ} {low : ℕ} (c : Chasing t f n m₀ w₀ low₀ i m w low) where
  pub chase_turn : {m' w' : List ℕ} {low' at : ℕ} → Passes t f → i < n → Becomes (f i) m w m' w' → Lowers w low w' low' → length m' ≡ length m → length w' ≡ length w
      → at ≡ seek t (n - (i + 1)) (i + 1) → Chasing t f n m₀ w₀ low₀ at m' w' low'
  chase_turn p h b d a e s = chase p (loop_turn c.looping h b d a e) s
