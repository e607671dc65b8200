-- The first flag that is set, by the first word that is not 0 and its lowest bit.
use mathlib.Core.Path.{◌≡◌, refl, ◌∙◌}
use mathlib.Core.Logic.{◌≢◌}
use mathlib.Core.List.{List}
use Prim.Native.Nat.{ℕ, zero, suc, ◌+◌, ◌*◌, ◌/◌, ◌%◌, ◌^◌, ◌≤◌, ◌<◌}
use native.Mathlib.Omega.{arith}
use native.Mathlib.Nat.{zero-div, div-one, pow-suc}
use native.Mathlib.Decide.{ℕ_discrete}
use lib.Count.{count_trailing_zeros, under}
use lib.ListN.{length, get_or}
use Rattle.words.specs.Words.{flags_of, NoneBelow, FirstFlag}
use Rattle.words.proofs.FlagsAsked.{half_bit, flags_length, flag_at}

-- ---- the lowest bit of a word

-- a bit is below the lowest that is set: bit 0 where it is 0, else one that is below it in the half
under_below : (n t s : ℕ) → s < under (n % 2) t → ((r : ℕ) → r < t → n / 2 / 2 ^ r % 2 ≡ 0) → n / 2 ^ s % 2 ≡ 0
under_below n t s = go (n % 2) refl s
  where
    go : (d : ℕ) → n % 2 ≡ d → (s : ℕ) → s < under d t → ((r : ℕ) → r < t → n / 2 / 2 ^ r % 2 ≡ 0) → n / 2 ^ s % 2 ≡ 0
    go zero e zero h f = rw (div-one n) e
    go zero e (suc s) h f = rw (← (half_bit n s)) (f s (omega arith))
    go (suc d) e s h f = absurd (omega arith)

pub trailing_below : (k n s : ℕ) → s < count_trailing_zeros k n → n / 2 ^ s % 2 ≡ 0
unfolding count_trailing_zeros
trailing_below zero n s h = absurd (omega arith)
trailing_below (suc k) n s h = under_below n (count_trailing_zeros k (n / 2)) s h (λ r l. trailing_below k (n / 2) r l)

under_set : (k n t : ℕ) → under (n % 2) t < suc k → (t < k → n / 2 / 2 ^ t % 2 ≡ 1) → n / 2 ^ (under (n % 2) t) % 2 ≡ 1
under_set k n t = go (n % 2) refl
  where
    go : (d : ℕ) → n % 2 ≡ d → under d t < suc k → (t < k → n / 2 / 2 ^ t % 2 ≡ 1) → n / 2 ^ (under d t) % 2 ≡ 1
    go zero e h f = rw (← (half_bit n t)) (f (omega arith))
    go (suc d) e h f = rw (div-one n) (omega arith)

pub trailing_set : (k n : ℕ) → count_trailing_zeros k n < k → n / 2 ^ (count_trailing_zeros k n) % 2 ≡ 1
unfolding count_trailing_zeros
trailing_set zero n h = absurd (omega arith)
trailing_set (suc k) n h = under_set k n (count_trailing_zeros k (n / 2)) h (λ l. trailing_set k (n / 2) l)

under_lt : (k n t : ℕ) → n ≢ 0 → (n / 2 ≢ 0 → t < k) → under (n % 2) t < suc k
under_lt k n t = go (n % 2) refl
  where
    go : (d : ℕ) → n % 2 ≡ d → n ≢ 0 → (n / 2 ≢ 0 → t < k) → under d t < suc k
    go zero e h f = let l = f (λ z. h (omega arith)) in omega arith
    go (suc d) e h f = omega arith

pub trailing_lt : (k n : ℕ) → n < 2 ^ k → n ≢ 0 → count_trailing_zeros k n < k
unfolding count_trailing_zeros
trailing_lt zero n l h = absurd (h (omega arith))
trailing_lt (suc k) n l h =
    let e = pow-suc 2 k in
    under_lt k n (count_trailing_zeros k (n / 2)) h (λ z. trailing_lt k (n / 2) (omega arith) z)

-- ---- the search

pub none_lower : {flags : List ℕ} {high : ℕ} (low : ℕ) → low ≤ high → NoneBelow flags high → NoneBelow flags low
none_lower low h b = record { none_below = λ j l. b.none_below j (omega arith) }

-- a word that is 0 has no flag that is set
pub none_more : (ws : List ℕ) (i : ℕ) → NoneBelow (flags_of ws) (i * 64) → get_or ws i 0 ≡ 0 → NoneBelow (flags_of ws) ((i + 1) * 64)
none_more ws i b z =
    record {
      none_below = λ j l.
          elim (ℕ_discrete (j / 64) i) [
            | yes e ↦ flag_at ws j ∙ rw (e, z, zero-div (2 ^ (j % 64)))
            | no e ↦ b.none_below j (omega arith)
          ];
    }

-- the lowest bit of the first word that is not 0
pub first_found : (ws : List ℕ) (i : ℕ) → i < length ws → NoneBelow (flags_of ws) (i * 64) → get_or ws i 0 < 2 ^ 64 → get_or ws i 0 ≢ 0
    → FirstFlag (flags_of ws) (i * 64 + count_trailing_zeros 64 (get_or ws i 0))
first_found ws i h b s z =
    let w = get_or ws i 0 in
    let t = count_trailing_zeros 64 w in
    let l : t < 64 = trailing_lt 64 w s z in
    let d : (i * 64 + t) / 64 ≡ i = omega arith in
    let m : (i * 64 + t) % 64 ≡ t = omega arith in
    record {
      within = omega (arith, flags_length ws);
      below =
          record {
            none_below = λ j k.
                elim (ℕ_discrete (j / 64) i) [
                  | yes e ↦ flag_at ws j ∙ rw e (trailing_below 64 w (j % 64) (omega arith))
                  | no e ↦ b.none_below j (omega arith)
                ];
          };
      found = λ k. flag_at ws (i * 64 + t) ∙ rw (d, m) (trailing_set 64 w l);
    }

-- no word is left
pub none_found : (ws : List ℕ) (i : ℕ) → length ws ≤ i → NoneBelow (flags_of ws) (i * 64) → FirstFlag (flags_of ws) (length ws * 64)
none_found ws i h b =
    record {
      within = omega (arith, flags_length ws);
      below = none_lower (length ws * 64) (omega arith) b;
      found = λ k. absurd (omega (arith, flags_length ws));
    }
