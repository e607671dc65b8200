-- A repair that is accepted, by an edit line or the text of an exchange: what it was lent, what it gives back, and that the file
-- which it writes is that of a well-formed program.
use mathlib.Core.Path.{◌≡◌, refl, sym, ap, ◌∙◌}
use mathlib.Core.List.{List}
use Prim.Native.Nat.{ℕ}
use native.Mathlib.Omega.{arith}
use lib.ListN.{length, drop}
use lib.Seq.{take-append_seam}
use Rattle.program.specs.Program.{Program}
use Rattle.program.specs.Chosen.{sizes_of, numbers}
use Rattle.program.specs.Checks.{Row, HasLength}
use Rattle.program.specs.WellFormed.{WellFormed}
use Rattle.program.specs.Writing.{written}
use Rattle.program.specs.Verdicts.{Verdict}
use Rattle.program.specs.Verdicts.{Accepted, Refused}
use Rattle.std.specs.Prelude.{Some}
use Rattle.program.proofs.Theorems.{no_rows}
use Rattle.program.proofs.ChecksPassed.{passes, few_checks}
use Rattle.reach.specs.Marks.{fresh_marks}
use Rattle.analysis.proofs.AnswersByChecks.{same_equal, by_marks}
use Rattle.exchange.specs.Changes.{Change, ChangeRead, Form}
use Rattle.exchange.specs.Changes as change
use Rattle.exchange.specs.Changing.{changed_program}
use Rattle.exchange.specs.Lengths.{work_first}
use Rattle.exchange_text.specs.Wanted.{wanted_change}
use Rattle.exchange.proofs.Theorems.{changed_well_formed}
use Rattle.exchange_text.proofs.Theorems.{wanted_change_applies, change_number}
use Rattle.repair.specs.Repairs.{After, checked_repair, repaired_to, owned_by, changed_by, measured, measured_by, wanted_by, repaired_by, repaired}
use Rattle.desk.specs.Entries.{Lent, Back, repair_back, program_in, repaired_in, Gives}
use Rattle.demands.specs.Lists.{Repair, entry, wrote}
use Rattle.demands.specs.Demands.{ChangedFile}
use Rattle.demands.proofs.ChangeRefusalsTold.{MeasuredAs, fitting, unfit, measured_told}
use Rattle.demands.proofs.EntriesGive.{repair_gives}

-- the change that was wanted, and what was given back for it
pub record Mended (k : Form) (b : Lent) (a : Back) (routines : ℕ) : Type 0 where
  pub the_change : Change
  pub wanted : wanted_change k (program_in b) b.text ≡ change.Read the_change
  pub well_formed : WellFormed (program_in b)
  pub own : b.marks ≡ fresh_marks (program_in b)
  -- an edit's working buffer has the marks' length
  pub work_length : HasLength (numbers (sizes_of (program_in b))) (work_first k (length b.work))
  pub is : a ≡ repair_back (repaired_to the_change (changed_program the_change (program_in b)) b.marks b.output b.work b.second) routines

module _ (k : Form) (b : Lent) (a : Back) (routines : ℕ) (z : a.refusal ≡ 0) where
  abbrev p : Program
  p = program_in b

  -- this was given back for all that is lent
  abbrev Given : After → Type 0
  Given x = a ≡ repair_back x routines

  -- a number that is none is no refusal's
  no_refusal : {A : Type 0} (n : ℕ) {c : Back} → a ≡ c → c.refusal ≡ n → (n ≡ 0 → ⊥) → A
  no_refusal n y r h = absurd (h (sym r ∙ sym (ap (λ (x : Back). x.refusal) y) ∙ z))

  pub mended : a ≡ repair_back (repaired_in k b) routines → Mended k b a routines
  unfolding repaired
  mended g = go (checked_repair k b.file b.marks b.output b.work) refl g
    where
      -- the lengths of the buffers that were judged first
      Lengths : Type 0
      Lengths = HasLength (numbers (sizes_of p)) (work_first k (length b.work))

      own : (c : Change) → wanted_change k p b.text ≡ change.Read c → WellFormed p → Lengths
          → Given (changed_by c p b.marks b.output b.work b.second) → Mended k b a routines
      own c w f l =
          by_marks p b.marks (λ v. Given (owned_by v c (changed_program c p) b.marks b.output b.work b.second) → Mended k b a routines)
          (λ t y. record { the_change = c; wanted = w; well_formed = f; own = same_equal b.marks (fresh_marks p) t; work_length = l; is = y })
          (λ t y. no_refusal 17 y refl (λ h. absurd (omega arith)))

      measures : (c : Change) {rs : List Row} (v : Verdict) → MeasuredAs rs v → (Given (changed_by c p b.marks b.output b.work b.second) → Mended k b a routines)
          → Given (measured_by v c p b.marks b.output b.work b.second) → Mended k b a routines
      measures c v (fitting f) then y = then y
      measures c v (unfit {n = n} low high f) then y = no_refusal n y refl (λ h. absurd (omega arith))

      by_change : (w : ChangeRead) → wanted_change k p b.text ≡ w → WellFormed p → Lengths
          → Given (wanted_by w p b.marks b.output b.work b.second) → Mended k b a routines
      by_change (change.Read c) w f l y =
          measures c (measured c p b.work b.second) (measured_told c p (length b.second) (length b.work)) (own c w f l) y
      by_change (change.Refused n) w f l y = no_refusal n y refl (λ h. absurd (omega (arith, (change_number k p b.text n w).0)))

      go : (v : Verdict) → checked_repair k b.file b.marks b.output b.work ≡ v
          → Given (repaired_by k v p b.marks b.text b.output b.work b.second) → Mended k b a routines
      go Accepted h x =
          let c = passes b.file (Some (length b.marks)) (Some (length b.output)) (work_first k (length b.work)) h in
          by_change (wanted_change k p b.text) refl c.well_formed c.sized.work_length x
      go (Refused n line) h x =
          no_refusal n x refl
          (λ y. absurd (omega (arith, (few_checks b.file (Some (length b.marks)) (Some (length b.output)) (work_first k (length b.work)) h).0)))

-- either change leaves the changed program, written, at the start of the output
pub repaired_wrote : (c : Change) (p : Program) (marks output work second : List ℕ) (routines : ℕ)
    → wrote (repair_back (repaired_to c p marks output work second) routines) ≡ written p
repaired_wrote (change.step e) p marks output work second routines = take-append_seam (written p) (drop (length (written p)) output)
repaired_wrote (change.whole x) p marks output work second routines = take-append_seam (written p) (drop (length (written p)) output)

module _ {k : Form} {b : Lent} {a : Back} {routines : ℕ} (m : Mended k b a routines) where
  pub mended_well_formed : WellFormed (changed_program m.the_change (program_in b))
  mended_well_formed = changed_well_formed m.the_change (program_in b) m.well_formed (wanted_change_applies k (program_in b) b.text m.the_change m.wanted)

  pub mended_wrote : wrote a ≡ written (changed_program m.the_change (program_in b))
  mended_wrote =
      ap wrote m.is
      ∙ repaired_wrote m.the_change (changed_program m.the_change (program_in b)) b.marks b.output b.work b.second routines

  mended_file : ChangedFile k b a
  mended_file = record { change = m.the_change; wanted = m.wanted; file = record { well_formed = mended_well_formed; rows = no_rows _; table = λ n. absurd (n refl); is_written = mended_wrote } }

-- what an accepted repair writes
pub changed_files : (k : Form) (r : Repair) (b : Lent) (a : Back) → Gives (entry k r) b a → a.refusal ≡ 0 → ChangedFile k b a
changed_files k r b a g z = mended_file (mended k b a a.values.reanalyzed z (repair_gives k r b a g))
