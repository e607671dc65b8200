-- Passes that keep one more at a time: the loop over the numbers, and the passes until nothing is left to be kept.
use mathlib.Core.Path.{◌≡◌, refl, sym, subst, subst₂, ◌∙◌}
use mathlib.Core.Logic.{⊎_elim}
use mathlib.Core.Bool.{Bool, true, false, cond, ◌||◌, or-true, or-false}
use mathlib.Core.List.{List, [], ◌∷◌}
use Prim.Native.Nat.{ℕ, zero, suc, ◌+◌, ◌-◌, ◌≤◌, ◌<◌}
use native.Mathlib.Omega.{arith}
use native.Mathlib.Decide.{ℕ_discrete}
use native.Mathlib.Nat.{eq-or-lt_of_le}
use lib.ListN.{length, get_or, set, length-set}
use borrow.Author.Tests.{eq-eqb}
use Rattle.base.specs.Flags.{count_set, On}
use Rattle.base.proofs.SetFlags.{on_set}
use Rattle.reach.proofs.MarksShown.{count_small}
use Rattle.prune.specs.Parts.{Keeps, same, more, Passed, Settled}
use Rattle.base.proofs.Bools.{never}
use Rattle.program.specs.declared.sizes.Sizes.{Sizes}
use Rattle.reach.specs.Configurations.{Usable}
use Rattle.program.specs.Chosen.{numbers}

-- one byte more is set
pub count_more : (l : List ℕ) (i : ℕ) → i < length l → get_or l i 0 ≡ 0 → count_set l < count_set (set l i 1)
unfolding count_set
count_more [] i h e = absurd (omega arith)
count_more (b ∷ bs) zero h e = rw (eq-eqb b 0 e) (omega arith)
count_more (b ∷ bs) (suc i) h e = let k = count_more bs i (omega arith) e in omega arith

module _ (Z : Sizes) (U : Usable Z) where
  -- ---- keeping one after another

  keeps_then : {test : List ℕ → ℕ → Bool} {old mid new : List ℕ} → Keeps Z test old mid → Keeps Z test mid new → Keeps Z test old new
  keeps_then k same = k
  keeps_then k (more l i h e) = more (keeps_then k l) i h e

  -- what was kept stays
  pub keeps_on : {test : List ℕ → ℕ → Bool} {old new : List ℕ} → Keeps Z test old new → (j : ℕ) → On old j → On new j
  keeps_on same j o = o
  keeps_on (more {kept = kept} k i h e) j o = on_set kept i j (keeps_on k j o)

  -- ---- one pass

  pub pass_none : (test : List ℕ → ℕ → Bool) (old : List ℕ) (low : ℕ) → Passed Z test old old false low low
  pass_none test old low =
      record { len = refl; keeps = same; grown = λ e. never e refl; same_bytes = λ e. refl; none_left = λ e j l h. absurd (omega arith) }

  module _ {test : List ℕ → ℕ → Bool} {old new : List ℕ} {low i : ℕ} where
    one_kept : (grown : Bool) → Passed Z test old new grown low i → i < numbers Z → i < length new → get_or new i 0 ≡ 0 → test new i ≡ true
        → Passed Z test old (set new i 1) true low (i + 1)
    one_kept grown p h k z e =
        record {
          len = simp length-set p.len;
          keeps = more p.keeps i h e;
          grown = λ x. go grown refl;
          same_bytes = λ x. never refl x;
          none_left = λ x. never refl x;
        }
      where
        go : (b : Bool) → grown ≡ b → count_set old < count_set (set new i 1)
        go true y = let a = p.grown y in let c = count_more new i k z in omega arith
        go false y = subst (λ (l : List ℕ). count_set l < count_set (set new i 1)) (p.same_bytes y) (count_more new i k z)

    none_kept : (grown : Bool) → Passed Z test old new grown low i → test new i ≡ false → Passed Z test old new grown low (i + 1)
    none_kept grown p e =
        record {
          len = p.len;
          keeps = p.keeps;
          grown = p.grown;
          same_bytes = p.same_bytes;
          none_left = λ x j s h.
              let at : test old i ≡ false = subst (λ (l : List ℕ). test l i ≡ false) (p.same_bytes x) e in
              let le : j ≤ i = omega arith in
              ⊎_elim (λ z. rw z at) (λ l. p.none_left x j s l) (eq-or-lt_of_le le);
        }

    -- number i is tried
    pub pass_turn : (grown : Bool) → Passed Z test old new grown low i → i < numbers Z → i < length new → (test new i ≡ true → get_or new i 0 ≡ 0)
        → (one : Bool) → one ≡ test new i → {new' : List ℕ} → new' ≡ cond one (set new i 1) new → Passed Z test old new' (grown || one) low (i + 1)
    pass_turn grown p h k z true e x = rw (x, or-true grown) (one_kept grown p h k (z (sym e)) (sym e))
    pass_turn grown p h k z false e x = rw (x, or-false grown) (none_kept grown p (sym e))

  -- a pass goes on where another ended
  module _ {test : List ℕ → ℕ → Bool} {old mid new : List ℕ} {low i high : ℕ} where
    on_grown : (a b : Bool) → Passed Z test old mid a low i → Passed Z test mid new b i high → a || b ≡ true → count_set old < count_set new
    on_grown true true p q e = let x = p.grown refl in let y = q.grown refl in omega arith
    on_grown true false p q e = rw (q.same_bytes refl) (p.grown refl)
    on_grown false b p q e = subst (λ (l : List ℕ). count_set l < count_set new) (p.same_bytes refl) (q.grown e)

    on_same : (a b : Bool) → Passed Z test old mid a low i → Passed Z test mid new b i high → a || b ≡ false → (a ≡ false) × (b ≡ false)
    on_same true b p q e = never refl e
    on_same false b p q e = (refl, e)

    pub pass_on : (a b : Bool) → Passed Z test old mid a low i → Passed Z test mid new b i high → Passed Z test old new (a || b) low high
    pass_on a b p q =
        record {
          len = q.len ∙ p.len;
          keeps = keeps_then p.keeps q.keeps;
          grown = on_grown a b p q;
          same_bytes = λ e. let z = on_same a b p q e in q.same_bytes z.1 ∙ p.same_bytes z.0;
          none_left = λ e j l h.
              let z = on_same a b p q e in
              elim (ℕ_discrete (i - j) 0) [
                | yes k ↦ subst (λ (l : List ℕ). test l j ≡ false) (p.same_bytes z.0) (q.none_left z.1 j (omega arith) h)
                | no k ↦ p.none_left z.0 j l (omega arith)
              ];
        }

  -- a pass between two numbers is one between their equals
  pub pass_between : {test : List ℕ → ℕ → Bool} {old new : List ℕ} {grown : Bool} {low low' i i' : ℕ} → low ≡ low' → i ≡ i'
      → Passed Z test old new grown low i → Passed Z test old new grown low' i'
  pass_between {test} {old} {new} {grown} l e p = subst₂ (λ (x y : ℕ). Passed Z test old new grown x y) l e p

  -- ---- passes

  -- what the passes have kept so far; after one that kept nothing more, nothing is left
  pub record Passing (test : List ℕ → ℕ → Bool) (old new : List ℕ) (grown : Bool) : Type 0 where
    pub len : length new ≡ length old
    pub keeps : Keeps Z test old new
    pub none_left : grown ≡ false → (j : ℕ) → j < numbers Z → test new j ≡ false

  pub passing_none : (test : List ℕ → ℕ → Bool) (old : List ℕ) → Passing test old old true
  passing_none test old = record { len = refl; keeps = same; none_left = λ e. never refl e }

  -- how much is left to do, at most
  abbrev pub left : List ℕ → Bool → ℕ
  left kept grown = numbers Z - count_set kept + cond grown 1 0

  module _ {test : List ℕ → ℕ → Bool} {old new : List ℕ} {grown : Bool} (p : Passing test old new grown) where
    pub passing_more : {new' : List ℕ} {grown' : Bool} → Passed Z test new new' grown' 0 (numbers Z) → Passing test old new' grown'
    passing_more q =
        record {
          len = q.len ∙ p.len;
          keeps = keeps_then p.keeps q.keeps;
          none_left = λ e j h. subst (λ (l : List ℕ). test l j ≡ false) (sym (q.same_bytes e)) (q.none_left e j (omega arith) h);
        }

    pub passing_end : grown ≡ false → Settled Z test old new
    passing_end e = record { len = p.len; keeps = p.keeps; none_left = p.none_left e }

  pub left_less : {test : List ℕ → ℕ → Bool} {new new' : List ℕ} (grown grown' : Bool) → Passed Z test new new' grown' 0 (numbers Z) → length new ≡ numbers Z → grown ≡ true
      → left new' grown' < left new grown
  left_less {new = new} {new' = new'} grown true q z e =
      let a = q.grown refl in
      let b = count_small new' in
      let c : length new' ≡ numbers Z = q.len ∙ z in
      rw e (omega arith)
  left_less {new = new} {new' = new'} grown false q z e = rw (e, q.same_bytes refl) (omega arith)
