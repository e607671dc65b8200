-- What the checks of a file and of the lengths say, whatever they were asked.
use mathlib.Core.Path.{◌≡◌, refl, ◌∙◌}
use mathlib.Core.Logic.{◌≢◌}
use mathlib.Core.Bool.{Bool, true, false, not}
use mathlib.Core.List.{List, [], ◌∷◌, ◌++◌}
use Prim.Native.Nat.{ℕ, ◌≤◌, ◌<◌}
use native.Mathlib.Omega.{arith}
use lib.Dec.{eqb}
use borrow.Author.Tests.{eqb-true, ltb-false}
use Rattle.program.specs.Sizes.{output_size}
use Rattle.program.specs.Chosen.{sizes_of, numbers}
use Rattle.program.specs.WellFormed.{WellFormed}
use Rattle.program.specs.Reading.{read_file}
use Rattle.program.specs.Checks.{Row, row, first_met, verdict_of, other_than, under, buffer_rows, checked_by, checked, HasLength, HasRoom, Sized}
use Rattle.program.specs.Verdicts.{Verdict}
use Rattle.program.specs.Verdicts.{Accepted, Refused}
use Rattle.program.specs.Checks.{Length}
use Rattle.std.specs.Prelude.{None, Some}
use Rattle.program.proofs.Theorems.{accepted_well_formed, few_lines}

-- ---- one length

pub has_length : (size : ℕ) (l : Length) → other_than size l ≡ false → HasLength size l
has_length size None e = tt
has_length size (Some n) e = go (eqb n size) refl e
  where
    go : (t : Bool) → eqb n size ≡ t → not t ≡ false → n ≡ size
    go true h f = eqb-true n size h
    go false h f = absurd (let z : ◌≡◌ {A = ℕ} 0 1 = cc in omega arith)

has_room : (size : ℕ) (l : Length) → under size l ≡ false → HasRoom size l
has_room size None e = tt
has_room size (Some n) e = ltb-false n size e

-- ---- the verdict

module _ (v : Verdict) (size : ℕ) (marks output work : Length) where
  -- the rows of the lengths, and then others: what is met
  abbrev Then : ℕ → List Row → Type 0
  Then n final = first_met (buffer_rows size marks output work ++ final) ≡ n

  pub data CheckedAs : Verdict → Type 0 where
    -- nothing is refused, and what comes after the lengths decides
    passed : v ≡ Accepted → Sized size marks output work → ((final : List Row) → Then (first_met final) final) → CheckedAs Accepted
    -- the file is refused
    by_file : {n line : ℕ} → v ≡ Refused n line → CheckedAs (Refused n line)
    -- a length is refused, whatever comes after
    by_length : {n : ℕ} → v ≡ Accepted → 9 ≤ n → n ≤ 11 → ((final : List Row) → Then n final) → CheckedAs (Refused n 0)

pub checks : (v : Verdict) (size : ℕ) (marks output work : Length) → CheckedAs v size marks output work (checked_by v size marks output work)
unfolding first_met
checks (Refused n line) size marks output work = by_file refl
checks Accepted size marks output work = go (other_than size marks) refl (under output_size output) refl (other_than size work) refl
  where
    go : (t : Bool) → other_than size marks ≡ t → (u : Bool) → under output_size output ≡ u → (w : Bool) → other_than size work ≡ w
        → CheckedAs Accepted size marks output work (verdict_of (first_met (row 9 t ∷ row 10 u ∷ row 11 w ∷ [])))
    go true t u v w x = by_length {n = 9} refl (omega arith) (omega arith) (λ final. rw t)
    go false t true v w x = by_length {n = 10} refl (omega arith) (omega arith) (λ final. rw (t, v))
    go false t false v true x = by_length {n = 11} refl (omega arith) (omega arith) (λ final. rw (t, v, x))
    go false t false v false x =
        passed refl
        (record { marks-length = has_length size marks t; output_length = has_room output_size output v; work_length = has_length size work x })
        (λ final. rw (t, v, x))

-- ---- for a file

module _ (file : List ℕ) (marks output work : Length) where
  pub checked_file : CheckedAs (read_file file).verdict (numbers (sizes_of (read_file file).program)) marks output work (checked file marks output work)
  unfolding checked
  checked_file = checks (read_file file).verdict (numbers (sizes_of (read_file file).program)) marks output work

  -- where nothing is refused the file is accepted, its program is well-formed, and each buffer has its size
  pub record Passed : Type 0 where
    pub file_accepted : (read_file file).verdict ≡ Accepted
    pub well_formed : WellFormed (read_file file).program
    pub sized : Sized (numbers (sizes_of (read_file file).program)) marks output work

  pub passes : checked file marks output work ≡ Accepted → Passed
  passes e = go (checked file marks output work) e checked_file
    where
      go : (c : Verdict) → c ≡ Accepted → CheckedAs (read_file file).verdict (numbers (sizes_of (read_file file).program)) marks output work c → Passed
      go c e (passed h s f) = record { file_accepted = h; well_formed = accepted_well_formed file h; sized = s }
      go c e (by_file h) = absurd (let z : ◌≡◌ {A = ℕ} 0 1 = cc in omega arith)
      go c e (by_length h a b f) = absurd (let z : ◌≡◌ {A = ℕ} 0 1 = cc in omega arith)

  -- a refusal's number is 1 to 23 and never that of the limit, 22, and its line is at most 819
  pub few_checks : {n line : ℕ} → checked file marks output work ≡ Refused n line → (0 < n) × (n ≤ 23) × (line ≤ 819) × (n ≢ 22)
  few_checks {n} {line} e = go (checked file marks output work) e checked_file
    where
      go : (c : Verdict) → c ≡ Refused n line → CheckedAs (read_file file).verdict (numbers (sizes_of (read_file file).program)) marks output work c → (0 < n) × (n ≤ 23) × (line ≤ 819) × (n ≢ 22)
      go c e (passed h s f) = absurd (let z : ◌≡◌ {A = ℕ} 0 1 = cc in omega arith)
      go c e (by_file h) = let k = few_lines file n line (h ∙ e) in (omega arith, omega arith, omega arith, k.5)
      go c e (by_length {n = m} h a b f) =
          let i : m ≡ n = cc in
          let j : line ≡ 0 = cc in
          (omega arith, omega arith, omega arith, λ z. omega arith)
