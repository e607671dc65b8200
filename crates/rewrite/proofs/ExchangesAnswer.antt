-- The answers of the exchanges, by what the functions below promise.
use mathlib.Core.Path.{◌≡◌, refl, sym, ap, subst, ◌∙◌}
use mathlib.Core.Logic.{◌≢◌}
use mathlib.Core.Bool.{Bool, true, false, cond, not}
use mathlib.Core.List.{List, [], ◌∷◌, ◌++◌}
use Prim.Native.Nat.{ℕ, ◌≤◌}
use native.Mathlib.Omega.{arith}
use lib.Dec.{eqb, leb}
use lib.ListN.{length, drop, replicate}
use borrow.Author.Tests.{leb-true, leb-false, eqb-true, ne_eqb}
use Rattle.program.specs.Sizes.{output_size}
use Rattle.program.specs.declared.sizes.Sizes.{Sizes}
use Rattle.program.specs.Chosen.{sizes_of, numbers}
use Rattle.program.specs.Program.{Program}
use Rattle.program.specs.WellFormed.{WellFormed}
use Rattle.program.specs.Writing.{written}
use Rattle.program.specs.Checks.{row, first_met, verdict_of}
use Rattle.program.specs.Verdicts.{Verdict}
use Rattle.program.specs.Verdicts as verdict
use Rattle.program.proofs.Theorems.{written_limited}
use Rattle.writer.specs.WriteAnswers.{Written, Refused}
use Rattle.reach.specs.Marks.{fresh_at}
use Rattle.analysis.specs.Answers.{owned}
use Rattle.exchange.specs.Changes.{Exchange, whole, ChangeRead}
use Rattle.exchange.specs.Changing.{exchanged_program}
use Rattle.exchange.specs.Lengths.{sizes_after, longer, lengths_of, length_rows}
use Rattle.exchange.specs.Wanted.{Fits}
use Rattle.exchange.proofs.Theorems.{exchanged_well_formed}
use Rattle.stages.specs.Parts.{Exchanges, Exchanged}
use Rattle.repair.specs.Repairs.{afterwards, zeroed, owned_by, changed_by, measured, measured_by, InsideOutNumber}
use Rattle.repair.proofs.RepairsAnswer.{same_after}
use Rattle.repair.proofs.InsideOutNumbers.{number_refused}
use Rattle.rewrite.specs.Parts.{Measured}

-- the sizes after an exchange are those of the exchanged program
pub after_sizes : (x : Exchange) (p : Program) → sizes_after x p ≡ sizes_of (exchanged_program x p)
unfolding exchanged_program
after_sizes x p = refl

pub exchanges : {Z Y : Sizes} (x : Exchange) (p : Program) → WellFormed p → Fits x p → Z ≡ sizes_of p → Y ≡ sizes_after x p → Exchanges Z Y x p
exchanges x p w f z y = record { well_formed = w; fits = f; before = z; after = y ∙ after_sizes x p }

-- ---- the marks

module _ (x : Exchange) (p : Program) (marks output work second : List ℕ) where
  pub own_answer : {Y : Sizes} → Y ≡ sizes_after x p → owned p marks ≡ verdict.Accepted → {p' : Program} {k s : List ℕ} → Exchanged Y (exchanged_program x p) p' s k
      → length k ≡ length work → {n : ℕ} {o : List ℕ} → (n ≡ length (written p')) × (o ≡ written p' ++ drop (length (written p')) output)
      → afterwards (Written n) marks o k s ≡ changed_by (whole x) p marks output work second
  own_answer {Y} i t {p'} {k} {s} r l {n} {o} g =
      let w = r.is_wanted in
      let text : written p' ≡ written (exchanged_program x p) = ap written w in
      same_after (ap Written (g.0 ∙ ap length text)) refl (g.1 ∙ ap (λ (b : List ℕ). b ++ drop (length b) output) text)
      (r.clear ∙ ap (λ (j : ℕ). replicate j 0) l)
      (r.own ∙ ap (fresh_at Y) w ∙ ap (λ (z : Sizes). fresh_at z (exchanged_program x p)) (i ∙ after_sizes x p))
      ∙ ap (λ (v : Verdict). owned_by v (whole x) (exchanged_program x p) marks output work second) (sym t)

  pub foreign_answer : {n at : ℕ} → owned p marks ≡ verdict.Refused n at → {k : List ℕ} → k ≡ zeroed work
      → afterwards (Refused n at) marks output k second ≡ changed_by (whole x) p marks output work second
  foreign_answer t z =
      same_after refl refl refl z refl ∙ ap (λ (v : Verdict). owned_by v (whole x) (exchanged_program x p) marks output work second) (sym t)

-- there is room for the new program
pub room : {Y : Sizes} (x : Exchange) (p : Program) (output : List ℕ) → WellFormed p → Fits x p → {p' : Program} {s k : List ℕ} → Exchanged Y (exchanged_program x p) p' s k
    → output_size ≤ length output → WellFormed p' × (length (written p') ≤ length output)
room x p output w f {p'} r h =
    let w' : WellFormed p' = subst WellFormed (sym r.is_wanted) (exchanged_well_formed x p w f) in
    (w', omega (arith, written_limited p' w'))

-- ---- the lengths

both_fit : (n m : ℕ) → (n ≤ longer n m) × (m ≤ longer n m)
both_fit n m = go (leb n m) refl
  where
    go : (t : Bool) → leb n m ≡ t → (n ≤ cond t m n) × (m ≤ cond t m n)
    go true h = (leb-true n m h, omega arith)
    go false h = (omega arith, omega (arith, leb-false n m h))

none_met : (a b : Bool) → first_met (row 9 (not a) ∷ row 11 (not b) ∷ []) ≡ 0 → (a ≡ true) × (b ≡ true)
unfolding first_met
none_met true true h = (refl, refl)
none_met true false h = absurd (omega arith)
none_met false b h = absurd (omega arith)

pub lengths_hold : (z y : Sizes) (marks output work second : List ℕ) → length marks ≡ numbers z → output_size ≤ length output
    → first_met (length_rows (lengths_of z y) (length second) (length work)) ≡ 0 → Measured z y marks output work second
lengths_hold z y marks output work second m o h =
    let e = none_met (eqb (length second) (numbers y)) (eqb (length work) (longer (numbers z) (numbers y))) h in
    let s = eqb-true (length second) (numbers y) e.0 in
    let w = eqb-true (length work) (longer (numbers z) (numbers y)) e.1 in
    let b = both_fit (numbers z) (numbers y) in
    record { marks-length = m; output_length = o; second_length = s; work_before = omega (arith, w, b.0); work-after = omega (arith, w, b.1) }

module _ (x : Exchange) (p : Program) (marks output work second : List ℕ) {z y : Sizes} (i : z ≡ sizes_of p) (j : y ≡ sizes_after x p) {n : ℕ}
    (e : n ≡ first_met (length_rows (lengths_of z y) (length second) (length work))) where
  -- by the sizes that the code has
  verdict_by : measured (whole x) p work second ≡ verdict_of n
  verdict_by = sym (ap verdict_of (e ∙ ap (λ (s : Sizes). first_met (length_rows (lengths_of s y) (length second) (length work))) i
      ∙ ap (λ (s : Sizes). first_met (length_rows (lengths_of (sizes_of p) s) (length second) (length work))) j))

  by_verdict : (v : Verdict) → verdict_of n ≡ v → measured_by v (whole x) p marks output work second
      ≡ measured_by (measured (whole x) p work second) (whole x) p marks output work second
  by_verdict v h = sym (ap (λ (u : Verdict). measured_by u (whole x) p marks output work second) (verdict_by ∙ h))

  pub measured_answer : n ≡ 0 → changed_by (whole x) p marks output work second
      ≡ measured_by (measured (whole x) p work second) (whole x) p marks output work second
  measured_answer h = by_verdict verdict.Accepted (rw h)

  pub unmeasured_answer : n ≢ 0 → afterwards (Refused n 0) marks output work second
      ≡ measured_by (measured (whole x) p work second) (whole x) p marks output work second
  unmeasured_answer h = by_verdict (verdict.Refused n 0) (rw (ne_eqb n 0 h))

-- a refusal says no routine
pub number_none : {n : ℕ} (w : ChangeRead) (p : Program) → n ≢ 0 → InsideOutNumber (eqb n 0) w p 0
number_none {n} w p h = number_refused n w p (omega (arith, h))
