-- The answers of the repairs, by what the functions below promise.
use mathlib.Core.Path.{◌≡◌, refl, sym, ap, subst, ◌∙◌}
use mathlib.Core.List.{List, [], ◌++◌}
use Prim.Native.Nat.{ℕ, ◌≤◌}
use native.Mathlib.Omega.{arith}
use lib.ListN.{length, drop, replicate}
use Rattle.program.specs.Sizes.{output_size}
use Rattle.program.specs.declared.sizes.Sizes.{Sizes}
use Rattle.program.specs.Chosen.{sizes_of, numbers}
use Rattle.program.specs.Program.{Program}
use Rattle.program.specs.WellFormed.{WellFormed}
use Rattle.program.specs.Writing.{written}
use Rattle.program.specs.Checks.{first_met, checked}
use Rattle.program.specs.Verdicts.{Verdict}
use Rattle.program.specs.Verdicts as verdict
use Rattle.std.specs.Prelude.{Some}
use Rattle.program.proofs.Theorems.{written_limited}
use Rattle.program.specs.Reading.{read_file}
use Rattle.reach.specs.Configurations.{none_set}
use Rattle.analysis.specs.Answers.{owned}
use Rattle.writer.specs.WriteAnswers.{Written, Refused}
use Rattle.writer.specs.WriteAnswers.{WriteAnswer}
use Rattle.reach.specs.Marks.{fresh_at}
use Rattle.edit.specs.Editing.{edited_program, Applies}
use Rattle.edit_line.specs.EditLines.{wanted_edit}
use Rattle.edit.specs.declared.Edit.{Edit}
use Rattle.edit.specs.EditReads.{EditRead}
use Rattle.edit.specs.EditReads as edit
use Rattle.edit.proofs.Theorems.{applied_well_formed}
use Rattle.exchange.specs.Changes.{step, Form, EditLine}
use Rattle.exchange.specs.Lengths.{work_first}
use Rattle.exchange_text.specs.Wanted.{of_edit, wanted_change}
use Rattle.forward.proofs.ChangedMarks.{edited_sizes}
use Rattle.forward.specs.Parts.{Repaired}
use Rattle.repair.specs.Repairs.{After, afterwards, zeroed, owned_by, changed_by, wanted_by, repaired_by, repaired}

-- ---- the marks

pub same_after : {a a' : WriteAnswer} {m m' o o' k k' s s' : List ℕ} → a ≡ a' → m ≡ m' → o ≡ o' → k ≡ k' → s ≡ s'
    → afterwards a m o k s ≡ afterwards a' m' o' k' s'
same_after a m o k s = λ i. record { answer = a i; marks = m i; output = o i; work = k i; second = s i }

-- a working buffer that has a byte for each number
zero_bytes : (z : Sizes) (work : List ℕ) → length work ≡ numbers z → none_set z ≡ zeroed work
unfolding none_set
zero_bytes z work h = ap (λ (n : ℕ). replicate n 0) (sym h)

module _ (e : Edit) (p : Program) (marks output work : List ℕ) (h : length work ≡ numbers (sizes_of p)) where
  pub own_answer : {Z : Sizes} → Z ≡ sizes_of p → owned p marks ≡ verdict.Accepted → {p' : Program} {m k : List ℕ} → Repaired Z (edited_program e p) p' m k → {n : ℕ} {o : List ℕ}
      → (n ≡ length (written p')) × (o ≡ written p' ++ drop (length (written p')) output)
      → ◌≡◌ {A = After} (record { answer = Written n; marks = m; output = o; work = k; second = [] }) (changed_by (step e) p marks output work [])
  own_answer {Z} i t {p'} {m} {k} r {n} {o} g =
      let s = edited_sizes e p i in
      let w = r.is_wanted in
      let text : written p' ≡ written (edited_program e p) = ap written w in
      same_after (ap Written (g.0 ∙ ap length text)) (r.own ∙ ap (fresh_at Z) w ∙ ap (λ (z : Sizes). fresh_at z (edited_program e p)) s)
      (g.1 ∙ ap (λ (x : List ℕ). x ++ drop (length x) output) text) (r.clear ∙ ap none_set i ∙ zero_bytes (sizes_of p) work h) refl
      ∙ ap (λ (v : Verdict). owned_by v (step e) (edited_program e p) marks output work []) (sym t)

  pub foreign_answer : {n at : ℕ} → owned p marks ≡ verdict.Refused n at → {k : List ℕ} → k ≡ none_set (sizes_of p)
      → ◌≡◌ {A = After} (record { answer = Refused n at; marks = marks; output = output; work = k; second = [] }) (changed_by (step e) p marks output work [])
  foreign_answer {n} {at} t {k} z =
      same_after refl refl refl (z ∙ zero_bytes (sizes_of p) work h) refl
      ∙ ap (λ (v : Verdict). owned_by v (step e) (edited_program e p) marks output work []) (sym t)

-- there is room for the changed program
module _ (e : Edit) (p : Program) (output : List ℕ) where
  pub room : {Z : Sizes} → WellFormed p → Applies e p → {p' : Program} {m k : List ℕ} → Repaired Z (edited_program e p) p' m k → output_size ≤ length output
      → WellFormed p' × (length (written p') ≤ length output)
  room w a {p'} r h =
      let w' : WellFormed p' = subst WellFormed (sym r.is_wanted) (applied_well_formed e p w a) in
      (w', omega (arith, written_limited p' w'))

-- ---- the checks before

module _ (k : Form) (file marks text output work second : List ℕ) where
  pub checked_answer : {v : Verdict} {p : Program} → v ≡ checked file (Some (length marks)) (Some (length output)) (work_first k (length work))
      → p ≡ (read_file file).program → repaired_by k v p marks text output work second ≡ repaired k file marks text output work second
  unfolding repaired
  checked_answer x e = rw (x, e) refl

-- ---- the line

module _ (p : Program) (marks line output work : List ℕ) where
  pub wanted_refused : (n : ℕ) → wanted_edit p line ≡ edit.Refused n
      → ◌≡◌ {A = After} (record { answer = Refused n 0; marks = marks; output = output; work = work; second = [] }) (wanted_by (wanted_change EditLine p line) p marks output work [])
  wanted_refused n h = ap (λ (r : EditRead). wanted_by (of_edit r) p marks output work []) (sym h)

  pub wanted_read : (e : Edit) → wanted_edit p line ≡ edit.Read e
      → changed_by (step e) p marks output work [] ≡ wanted_by (wanted_change EditLine p line) p marks output work []
  unfolding first_met
  wanted_read e h = ap (λ (r : EditRead). wanted_by (of_edit r) p marks output work []) (sym h)
