-- A loop that sets, in words that are 0, the flags of the numbers that meet a test.
use Prim.Native.Nat.{ℕ, suc, ◌+◌, ◌-◌, ◌*◌, ◌≤◌, ◌<◌}
use mathlib.Core.Path.{◌≡◌, refl, ◌∙◌}
use mathlib.Core.Bool.{Bool, true, false, cond}
use mathlib.Core.List.{List}
use native.Mathlib.Omega.{arith}
use native.Mathlib.Decide.{ℕ_discrete}
use lib.ListN.{length, set, take, replicate, length-replicate}
use lib.Seq.{length-take-le}
use Rattle.base.specs.Filled.{Filled}
use Rattle.base.proofs.BytesFilled.{Filling, filling_more, filling_kept}
use Rattle.base.proofs.SetFlags.{zeros}
use Rattle.words.specs.Words.{flags_of}
use Rattle.words.proofs.FlagsAsked.{no_flags}
use Rattle.words.proofs.FlagsOfPart.{take_at}

-- at i the flags below are set where their numbers meet the test, and the others are not set; there are n words
pub record Setting (t : ℕ → Bool) (n : ℕ) (words : List ℕ) (i : ℕ) : Type 0 where
  pub count : length words ≡ n
  pub filling : Filling (λ j. cond (t j) 1 0) (n * 64) (replicate (n * 64) 0) (flags_of words) i

pub setting_none : (t : ℕ → Bool) (n i : ℕ) → ((j : ℕ) → j < i → t j ≡ false) → Setting t n (replicate n 0) i
setting_none t n i h =
    record {
      count = length-replicate {A = ℕ} n 0;
      filling = rw (no_flags n) (record {
        len = length-replicate {A = ℕ} (n * 64) 0;
        written = λ j k. zeros (n * 64) j ∙ rw (h j k);
        left = λ j k. refl;
      });
    }

module _ {t : ℕ → Bool} {n : ℕ} {words : List ℕ} {i : ℕ} (s : Setting t n words i) where
  pub setting_here : (words' : List ℕ) → i < n * 64 → t i ≡ true → flags_of words' ≡ set (flags_of words) i 1 → length words' ≡ length words
      → Setting t n words' (i + 1)
  setting_here words' h e f l =
      record { count = l ∙ s.count; filling = rw f (filling_more s.filling h (rw e)) }

  pub setting_other : t i ≡ false → Setting t n words (i + 1)
  setting_other e = record { count = s.count; filling = filling_kept s.filling (zeros (n * 64) i ∙ rw e) }

  -- where none of the others meets the test, all flags are set that are to be
  pub setting_all : ((j : ℕ) → i ≤ j → j < n * 64 → t j ≡ false) → Filled (λ j. cond (t j) 1 0) (n * 64) (flags_of words)
  setting_all h =
      record {
        len = s.filling.len;
        byte = λ j k.
            elim (ℕ_discrete (suc j - i) 0) [
              | yes e ↦ s.filling.written j (omega arith)
              | no e ↦ s.filling.left j (omega arith) ∙ zeros (n * 64) j ∙ rw (h j (omega arith) k)
            ];
      }

-- the first m flags, once they are set
pub setting_first : {t : ℕ → Bool} {n : ℕ} {words : List ℕ} {i : ℕ} (m : ℕ) → m ≤ i → m ≤ n * 64 → Setting t n words i → Filled (λ j. cond (t j) 1 0) m (take m (flags_of words))
setting_first {words = words} m h k s =
    record {
      len = length-take-le m (flags_of words) (omega (arith, s.filling.len));
      byte = λ j l. take_at m (flags_of words) j l ∙ s.filling.written j (omega arith);
    }
