-- The fresh marks show exactly the configurations that occur.
use mathlib.Core.Path.{◌≡◌, sym, subst, ◌∙◌}
use mathlib.Core.Logic.{◌↔◌, ◌≢◌, ◌⊎◌, inl, inr}
use mathlib.Core.Bool.{Bool, true, false, cond}
use mathlib.Core.List.{List, [], ◌∷◌}
use Prim.Native.Nat.{ℕ, suc, ◌+◌, ◌≤◌, ◌<◌}
use native.Mathlib.Omega.{arith}
use native.Mathlib.Decide.{ℕ_discrete}
use lib.ListN.{get_or, length}
use lib.Seq.{ext_get_or}
use lib.Dec.{eqb}
use Rattle.program.specs.Program.{Program}
use Rattle.reach.specs.Configurations.{Set, InRange, number, At, Sub}
use Rattle.reach.specs.Runs.{Occurs}
use Rattle.reach.specs.Reachable.{Reachable}
use Rattle.reach.specs.Marks.{Marked, Shows, fresh_at}
use Rattle.base.specs.Flags.{count_set}
use Rattle.reach.proofs.RunsReach.{occurs_iff}
use Rattle.reach.proofs.Numbers.{number-of, parts_in_range}
use Rattle.reach.proofs.ProgramInSizes.{reachable_in_range}
use Rattle.reach.proofs.ShapeKept.{marks-length, marks_bits}
use Rattle.reach.proofs.AnalysisExact.{analysis_exact}
use Rattle.program.specs.declared.sizes.Sizes.{Sizes}
use Rattle.program.specs.Chosen.{numbers}
use Rattle.reach.specs.Configurations.{Usable}
use Rattle.reach.specs.Ranged.{Ranged}

pub one_of : {x : ℕ} → x ≤ 1 → x ≢ 0 → x ≡ 1
one_of {x} h n = elim (ℕ_discrete x 1) [ yes e ↦ e | no e ↦ absurd (n (omega arith)) ]

zero_of : {x : ℕ} → x ≤ 1 → x ≢ 1 → x ≡ 0
zero_of {x} h n = elim (ℕ_discrete x 0) [ yes e ↦ e | no e ↦ absurd (n (omega arith)) ]

-- ---- how many bytes are set

pub count_small : (l : List ℕ) → count_set l ≤ length l
unfolding count_set
count_small [] = omega arith
count_small (b ∷ bs) = let h = count_small bs in one_more (eqb b 0) h
  where
    one_more : (t : Bool) {n m : ℕ} → n ≤ m → cond t 0 1 + n ≤ suc m
    one_more true h = omega arith
    one_more false h = omega arith

module _ (Z : Sizes) (U : Usable Z) where
  -- ---- lists of marks

  -- the same by numbers
  pub shown_at : {S : Set} {l : List ℕ} → Shows Z S l → (i : ℕ) → i < numbers Z → (get_or l i 0 ≡ 1) ↔ At Z S i
  shown_at {S} {l} a i h = subst (λ (j : ℕ). (get_or l j 0 ≡ 1) ↔ At Z S i) (number-of Z i) (a.shown (parts_in_range Z U i h))

  -- two sets with the same configurations are shown by the same lists
  pub shows_same : {S S' : Set} {l : List ℕ} → Sub S S' → Sub S' S → Shows Z S l → Shows Z S' l
  shows_same e e' a =
      record { len = a.len; bit = a.bit; shown = λ h. (λ x. e.at ((a.shown h).0 x), λ x. (a.shown h).1 (e'.at x)) }

  -- each byte is 1 and its configuration is in the set, or it is 0 and its configuration is not
  pub every_byte : {S : Set} {l : List ℕ} → Shows Z S l → (i : ℕ) → i < numbers Z
      → ((get_or l i 0 ≡ 1) × At Z S i) ⊎ ((get_or l i 0 ≡ 0) × (¬ (At Z S i)))
  every_byte {S} {l} a i h =
      let x = shown_at a i h in
      elim (ℕ_discrete (get_or l i 0) 1) [ yes e ↦ inl (e, x.0 e) | no e ↦ inr (zero_of (a.bit i) e, λ y. e (x.1 y)) ]

  -- bytes that are 0 or 1, set exactly at the configurations of S
  pub shows_marked : {S : Set} {l : List ℕ} → length l ≡ numbers Z → ((i : ℕ) → get_or l i 0 ≤ 1)
      → ((f n r q : ℕ) → Marked Z l f n r q ↔ S f n r q) → Shows Z S l
  shows_marked {S} {l} z b e = record { len = z; bit = b; shown = λ {f} {n} {r} {q} h. shown h }
    where
      shown : {f n r q : ℕ} → InRange Z f n r q → (get_or l (number Z f n r q) 0 ≡ 1) ↔ S f n r q
      shown {f} {n} {r} {q} h =
          (λ x. (e f n r q).0 (h, λ o. omega arith), λ x. one_of (b (number Z f n r q)) ((e f n r q).1 x).1)

  -- a list of marks is determined by its set
  pub one_list : {S : Set} {l l' : List ℕ} → Shows Z S l → Shows Z S l' → l ≡ l'
  one_list {S} {l} {l'} a b =
      ext_get_or 0 l l' (a.len ∙ sym b.len)
      (λ i h.
      let k : i < numbers Z = omega (arith, a.len) in
      let y = shown_at b i k in
      elim (every_byte a i k) [
        | inl x ↦ x.0 ∙ sym (y.1 x.1)
        | inr x ↦ x.0 ∙ sym (zero_of (b.bit i) (λ e. x.1 (y.0 e)))
      ])

  -- ---- the fresh marks

  module _ (p : Program) (w : Ranged Z p) where
    pub reachable_shown : Shows Z (Reachable p) (fresh_at Z p)
    reachable_shown = shows_marked (marks-length Z U p) (marks_bits Z U p) (analysis_exact Z U p w)

    pub fresh_shows : Shows Z (Occurs p) (fresh_at Z p)
    fresh_shows = shows_same (record { at = occurs_iff.1 }) (record { at = occurs_iff.0 }) reachable_shown

    -- what occurs is in range
    pub occurs_in_range : {f n r q : ℕ} → Occurs p f n r q → InRange Z f n r q
    occurs_in_range o = reachable_in_range Z U p w (occurs_iff.0 o)

  -- at most so many bytes are set
  pub few_marks : (p : Program) → count_set (fresh_at Z p) ≤ numbers Z
  few_marks p = omega (arith, count_small (fresh_at Z p), marks-length Z U p)
