-- One configuration marked or set pending, and the lower bound of what is pending.
use Prim.Native.Nat.{ℕ, zero, suc, ◌≤◌, ◌<◌, ◌+◌, ◌-◌}
use mathlib.Core.Path.{◌≡◌, refl, sym, ap, ◌∙◌}
use mathlib.Core.List.{List}
use native.Mathlib.Omega.{arith}
use native.Mathlib.Nat.{sub-zero}
use native.Mathlib.Numerals.{add-one}
use lib.ListN.{length, get_or, set, take, length-set, length-take, get_or-eq_default}
use lib.Seq.{set_out, get_or-set_other}
use borrow.Author.Tests.{eq-eqb, ne_eqb}
use Rattle.reach.specs.Worklist.{Worklist, mark, wake}
use Rattle.words.specs.Words.{flags_of}
use Rattle.words.proofs.FlagsOfPart.{take_set}
use Rattle.marking.specs.Parts.{working, Becomes, Lowers, each}

module _ (m w : List ℕ) (at : ℕ) where
  pub mark_new : {w' : List ℕ} → get_or m at 0 ≡ 0 → flags_of w' ≡ set (flags_of w) at 1 → Becomes (mark at) m w (set m at 1) w'
  unfolding mark
  mark_new e f = record { becomes = λ k n. rw (mark, eq-eqb (get_or m at 0) 0 e, length-set m at 1, f, take_set (length m) (flags_of w) at 1) }

  pub mark_old : (get_or m at 0 ≡ 0 → ⊥) → Becomes (mark at) m w m w
  unfolding mark
  mark_old e = record { becomes = λ k n. rw (mark, ne_eqb (get_or m at 0) 0 e) }

  pub mark_out : length m ≤ at → Becomes (mark at) m w m w
  unfolding mark
  mark_out a =
      let l = length-take (length m) (flags_of w) in
      record { becomes = λ k n. rw (mark, eq-eqb (get_or m at 0) 0 (get_or-eq_default m 0 a), set_out m at 1 a, set_out (take (length m) (flags_of w)) at 1 (omega arith)) }

  pub wake_marked : {w' : List ℕ} → (get_or m at 0 ≡ 0 → ⊥) → flags_of w' ≡ set (flags_of w) at 1 → Becomes (wake at) m w m w'
  unfolding wake
  wake_marked e f = record { becomes = λ k n. rw (wake, ne_eqb (get_or m at 0) 0 e, f, take_set (length m) (flags_of w) at 1) }

  pub wake_unmarked : get_or m at 0 ≡ 0 → Becomes (wake at) m w m w
  unfolding wake
  wake_unmarked e = record { becomes = λ k n. rw (wake, eq-eqb (get_or m at 0) 0 e) }

  pub wake_out : length m ≤ at → Becomes (wake at) m w m w
  wake_out a = wake_unmarked (get_or-eq_default m 0 a)

-- one more is pending: the bound is the lower of the two
pub set_lowers : (w w' : List ℕ) (at low r : ℕ) → flags_of w' ≡ set (flags_of w) at 1 → r ≤ low → r ≤ at → Lowers w low w' r
set_lowers w w' at low r f a b h =
    record { none_below = λ j l. rw f (get_or-set_other (flags_of w) at j 1 0 (λ e. omega arith) ∙ h.none_below j (omega arith)) }

-- ---- loops that take one step for each number

one_less : (n j : ℕ) → j < n → n - j ≡ suc (n - (j + 1))
one_less n j h = omega arith

none_left : (n j : ℕ) → n ≤ j → n - j ≡ 0
none_left n j h = omega arith

each_turn : (f : ℕ → Worklist → Worklist) (n j : ℕ) (s : Worklist) → j < n → each f (n - j) j s ≡ each f (n - (j + 1)) (j + 1) (f j s)
unfolding each
each_turn f n j s h = rw (one_less n j h, add-one j)

each_done : (f : ℕ → Worklist → Worklist) (n j : ℕ) (s : Worklist) → n ≤ j → each f (n - j) j s ≡ s
unfolding each
each_done f n j s h = rw (none_left n j h)

-- nothing is done for the numbers from i up to j
pub record Idle (f : ℕ → Worklist → Worklist) (i j : ℕ) : Type 0 where
  pub idle : (x : ℕ) → i ≤ x → x < j → (s : Worklist) → f x s ≡ s

-- so the steps from j on are all that is left
each_skip : (f : ℕ → Worklist → Worklist) (n k i : ℕ) (s : Worklist) → i + k ≤ n → Idle f i (i + k) → each f (n - i) i s ≡ each f (n - (i + k)) (i + k) s
each_skip f n zero i s h t = let e : i + 0 ≡ i = omega arith in rw e
each_skip f n (suc k) i s h t =
    let e : i + suc k ≡ i + 1 + k = omega arith in
    each_turn f n i s (omega arith)
    ∙ ap (each f (n - (i + 1)) (i + 1)) (t.idle i (omega arith) (omega arith) s)
    ∙ rw e (each_skip f n k (i + 1) s (omega arith) (record { idle = λ x a b. t.idle x (omega arith) (omega arith) }))

-- what holds at the head of such a loop: what is left to do from here gives the whole
pub record Looping (f : ℕ → Worklist → Worklist) (n : ℕ) (m₀ w₀ : List ℕ) (low₀ j : ℕ) (m w : List ℕ) (low : ℕ) : Type 0 where
  pub within : j ≤ n
  pub marks-length : length m ≡ length m₀
  pub pending_length : length w ≡ length w₀
  pub rest : (known : List ℕ) (c : ℕ) → each f (n - j) j (working m w known c) ≡ each f n 0 (working m₀ w₀ known c)
  pub lowers : Lowers w₀ low₀ w low

pub loop_start : (f : ℕ → Worklist → Worklist) (n : ℕ) (m w : List ℕ) (low : ℕ) → Looping f n m w low 0 m w low
loop_start f n m w low =
    record { within = omega arith; marks-length = refl; pending_length = refl; rest = λ known c. simp sub-zero; lowers = λ h. h }

module _ {f : ℕ → Worklist → Worklist} {n : ℕ} {m₀ w₀ : List ℕ} {low₀ j : ℕ} {m w : List ℕ} {low : ℕ} (l : Looping f n m₀ w₀ low₀ j m w low) where
  pub loop_turn : {m' w' : List ℕ} {low' : ℕ} → j < n → Becomes (f j) m w m' w' → Lowers w low w' low' → length m' ≡ length m → length w' ≡ length w
      → Looping f n m₀ w₀ low₀ (j + 1) m' w' low'
  loop_turn h b d a e =
      record {
        within = omega arith;
        marks-length = a ∙ l.marks-length;
        pending_length = e ∙ l.pending_length;
        rest = λ known c.
            ap (each f (n - (j + 1)) (j + 1)) (b.becomes known c) ∙ sym (each_turn f n j (working m w known c) h) ∙ l.rest known c;
        lowers = λ x. d (l.lowers x);
      }

  -- the numbers up to i are passed over
  pub loop_skip : {i : ℕ} → j ≤ i → i ≤ n → Idle f j i → Looping f n m₀ w₀ low₀ i m w low
  loop_skip {i} a b t =
      let e : j + (i - j) ≡ i = omega arith in
      record {
        within = b;
        marks-length = l.marks-length;
        pending_length = l.pending_length;
        rest = λ known c.
            sym (rw e at (each_skip f n (i - j) j (working m w known c) (omega arith) (record { idle = λ x u v. t.idle x u (omega arith) }))) ∙ l.rest known c;
        lowers = l.lowers;
      }

  pub loop_end : n ≤ j → Becomes (each f n 0) m₀ w₀ m w × Lowers w₀ low₀ w low
  loop_end h = (record { becomes = λ known c. sym (each_done f n j (working m w known c) h) ∙ l.rest known c }, l.lowers)

-- the numbers up to i are passed over, and the step of i is taken
pub loop_next : {f : ℕ → Worklist → Worklist} {n : ℕ} {m₀ w₀ : List ℕ} {low₀ j : ℕ} {m w : List ℕ} {low : ℕ} {m' w' : List ℕ} {low' i x : ℕ}
    → Looping f n m₀ w₀ low₀ j m w low → j ≤ i → i < n → Idle f j i → x ≡ i + 1 → Becomes (f i) m w m' w' → Lowers w low w' low'
    → length m' ≡ length m → length w' ≡ length w → Looping f n m₀ w₀ low₀ x m' w' low'
loop_next l a h t e b d p q = rw e (loop_turn (loop_skip l a (omega arith) t) h b d p q)

-- nothing is left to do
pub loop_idle : {f : ℕ → Worklist → Worklist} {n : ℕ} {m₀ w₀ : List ℕ} {low₀ j : ℕ} {m w : List ℕ} {low : ℕ} → Looping f n m₀ w₀ low₀ j m w low
    → Idle f j n → Becomes (each f n 0) m₀ w₀ m w × Lowers w₀ low₀ w low
loop_idle l t = loop_end (loop_skip l l.within (omega arith) t) (omega arith)
