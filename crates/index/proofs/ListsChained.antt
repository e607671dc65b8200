-- Chained lists of the numbers that meet a test, made from the last number to the first.
use Prim.Native.Nat.{ℕ, ◌+◌, ◌-◌, ◌≤◌, ◌<◌}
use mathlib.Core.Path.{◌≡◌, refl, sym, ◌∙◌}
use mathlib.Core.Logic.{◌≢◌}
use mathlib.Core.Bool.{Bool, true, false, cond}
use mathlib.Core.List.{List}
use native.Mathlib.Omega.{arith}
use native.Mathlib.Decide.{ℕ_discrete}
use lib.ListN.{length, get_or, set, length-set}
use lib.Seq.{get_or-set_same, get_or-set_other, lt-length-set}
use Rattle.base.proofs.Bools.{never}
use Rattle.base.specs.Searches.{seek}
use Rattle.index.specs.Linked.{linked}
use Rattle.base.proofs.NumbersSought.{seek_none, seek_met, seek_on}

-- ---- a number goes before the first of a list: what stands where

module _ (first next i : ℕ) (l : List ℕ) where
  pub length_linked : length (linked first next i l) ≡ length l
  unfolding linked
  length_linked = simp length-set

  pub linked_first : first < length l → get_or (linked first next i l) first 0 ≡ i
  unfolding linked
  linked_first h = get_or-set_same (set l next (get_or l first 0)) first i 0 (lt-length-set l next (get_or l first 0) h)

  pub linked_next : next < length l → next ≢ first → get_or (linked first next i l) next 0 ≡ get_or l first 0
  unfolding linked
  linked_next h d = get_or-set_other (set l next (get_or l first 0)) first next i 0 d ∙ get_or-set_same l next (get_or l first 0) 0 h

  pub linked_other : (x : ℕ) → x ≢ first → x ≢ next → get_or (linked first next i l) x 0 ≡ get_or l x 0
  unfolding linked
  linked_other x d e = get_or-set_other (set l next (get_or l first 0)) first x i 0 d ∙ get_or-set_other l next x (get_or l first 0) 0 e

-- ---- the same where a test is passed, else nothing is changed

module _ (b : Bool) (first next i : ℕ) (l : List ℕ) where
  pub length_when : length (cond b (linked first next i l) l) ≡ length l
  length_when = go b
    where
      go : (b : Bool) → length (cond b (linked first next i l) l) ≡ length l
      go true = length_linked first next i l
      go false = refl

  pub when_other : (x : ℕ) → (b ≡ true → x ≢ first) → x ≢ next → get_or (cond b (linked first next i l) l) x 0 ≡ get_or l x 0
  when_other x d e = go b d
    where
      go : (b : Bool) → (b ≡ true → x ≢ first) → get_or (cond b (linked first next i l) l) x 0 ≡ get_or l x 0
      go true d = linked_other first next i l x (d refl) e
      go false d = refl

-- ---- the list of the numbers from i on, below a count, that meet a test

pub record Chained (t : ℕ → Bool) (count i first : ℕ) (next : ℕ → ℕ) (l : List ℕ) : Type 0 where
  pub head : get_or l first 0 ≡ seek t (count - i) i
  pub tail : (j : ℕ) → i ≤ j → j < count → t j ≡ true → get_or l (next j) 0 ≡ seek t (count - (j + 1)) (j + 1)

pub chained_none : {t : ℕ → Bool} {count first : ℕ} {next : ℕ → ℕ} {l : List ℕ} → get_or l first 0 ≡ count → Chained t count count first next l
chained_none {t} {count} e = record { head = e ∙ sym (seek_none t count); tail = λ j h k m. absurd (omega arith) }

-- nothing of the list is changed
pub chained_kept : {t : ℕ → Bool} {count i first : ℕ} {next : ℕ → ℕ} {l m : List ℕ} → Chained t count i first next l → get_or m first 0 ≡ get_or l first 0
    → ((j : ℕ) → i ≤ j → j < count → get_or m (next j) 0 ≡ get_or l (next j) 0) → Chained t count i first next m
chained_kept c e f = record { head = e ∙ c.head; tail = λ j h k u. f j h k ∙ c.tail j h k u }

-- i does not meet the test
chained_passed : {t : ℕ → Bool} {count i first : ℕ} {next : ℕ → ℕ} {l : List ℕ} → Chained t count (i + 1) first next l → i < count → t i ≡ false
    → Chained t count i first next l
chained_passed {t} {count} {i} c h e =
    record {
      head = c.head ∙ sym (seek_on t count i h e);
      tail = λ j k b u. elim (ℕ_discrete j i) [ yes d ↦ never (rw d at u) e | no d ↦ c.tail j (omega arith) b u ];
    }

module _ {t : ℕ → Bool} {count i first : ℕ} {next : ℕ → ℕ} {l : List ℕ} (c : Chained t count (i + 1) first next l) (h : i < count) where
  -- i meets the test, and goes before the first; no two places are the same
  chained_linked : t i ≡ true → first < length l → next i < length l → ((j : ℕ) → next j ≢ first) → ((j : ℕ) → j ≢ i → next j ≢ next i)
      → Chained t count i first next (linked first (next i) i l)
  chained_linked e room room_next apart one =
      record {
        head = linked_first first (next i) i l room ∙ sym (seek_met t count i h e);
        tail = λ j k b u.
            elim (ℕ_discrete j i) [
              | yes d ↦ rw d (linked_next first (next i) i l room_next (apart i) ∙ c.head)
              | no d ↦ linked_other first (next i) i l (next j) (apart j) (one j d) ∙ c.tail j (omega arith) b u
            ];
      }

  -- a number goes before the first of the list that it belongs to: of this one exactly where i meets the test
  pub chained_turn : (b : Bool) (at : ℕ) → (t i ≡ true → (b ≡ true) × (at ≡ first)) → (t i ≡ false → b ≡ true → first ≢ at)
      → first < length l → next i < length l → ((j : ℕ) → next j ≢ first) → (b ≡ true → (j : ℕ) → next j ≢ at)
      → first ≢ next i → ((j : ℕ) → j ≢ i → next j ≢ next i) → Chained t count i first next (cond b (linked at (next i) i l) l)
  chained_turn b at here there room room_next apart apart-at d one = go (t i) refl
    where
      go : (m : Bool) → t i ≡ m → Chained t count i first next (cond b (linked at (next i) i l) l)
      go true e = rw ((here e).0, (here e).1) (chained_linked e room room_next apart one)
      go false e =
          chained_passed
          (chained_kept c (when_other b at (next i) i l first (there e) d)
          (λ j k n. when_other b at (next i) i l (next j) (λ u. apart-at u j) (one j (λ z. omega arith)))) h e
