-- What is printed for an answer of the analysis and of a repair.
use mathlib.Core.Path.{◌≡◌, refl, sym, ap, ◌∙◌}
use mathlib.Core.List.{List, [], ◌∷◌, ◌++◌}
use Prim.Native.Nat.{ℕ, zero, suc, ◌+◌, ◌%◌, ◌≤◌}
use native.Mathlib.Nat.{mul-le-mul}
use native.Mathlib.Omega.{arith}
use lib.ListN.{length, take, drop, replicate, length-replicate}
use borrow.Author.Tests.{eq-eqb}
use lib.Seq.{take-append_seam, length-take-le}
use Rattle.program.specs.declared.sizes.Sizes.{Sizes}
use Rattle.program.specs.Chosen.{sizes_of, numbers, Admitted}
use Rattle.program.proofs.ChosenSizes.{admitted}
use Rattle.reach.proofs.ProgramInSizes.{usable, summaries_few}
use Rattle.reach.proofs.TakingsBounded.{iterations_bound}
use Rattle.program.specs.Program.{Program}
use Rattle.program.specs.WellFormed.{WellFormed}
use Rattle.program.specs.Reading.{Outcome, read_file}
use Rattle.program.specs.Checks.{first_met, checked_by, checked, followed_by}
use Rattle.program.specs.Writing.{written}
use Rattle.program.specs.Verdicts.{Verdict}
use Rattle.program.specs.Verdicts as verdict
use Rattle.std.specs.Prelude.{None, Some}
use Rattle.program.proofs.Theorems.{read_again, few_lines, accepted_well_formed}
use Rattle.program.proofs.ChecksPassed.{passes}
use Rattle.writer.specs.WriteAnswers.{WriteAnswer}
use Rattle.reach.specs.Sizes.{summaries, enough_iterations}
use Rattle.reach.specs.Marks.{fresh_marks}
use Rattle.reach.proofs.ShapeKept.{marks-length}
use Rattle.analysis.specs.Answers.{limited, checked_limit, analyze_by, analyze_answer, marks_after}
use Rattle.analysis.proofs.AnswersByChecks.{by_marks}
use Rattle.analysis.proofs.LimitDecides.{enough_accepted}
use Rattle.analysis.specs.AnalyzeAnswers as analyzed
use Rattle.edit.specs.Editing.{edited_program}
use Rattle.edit_line.specs.EditLines.{wanted_edit}
use Rattle.edit.specs.declared.Edit.{Edit}
use Rattle.edit.specs.EditReads.{EditRead}
use Rattle.edit.specs.EditReads as read
use Rattle.edit.proofs.Theorems.{applied_well_formed}
use Rattle.edit_line.proofs.Theorems.{wanted_applies}
use Rattle.exchange_text.specs.Wanted.{of_edit}
use Rattle.exchange.specs.Changes.{step, EditLine}
use Rattle.repair.specs.Repairs.{After, checked_repair, repaired_to, owned_by, wanted_by, repaired_by, repaired}
use Rattle.repair.specs.Desk.{Desk, file_by, after}
use Rattle.report.specs.Report.{block_of, block_text, file_refusal, refused_file}
use Rattle.transcript.specs.Transcript.{held_of, no_output, no_work, edit_on, text_by}
use Rattle.transcript.specs.Parts.{Within, edited_text, most_iterations}
use Rattle.transcript.specs.declared.Held.{Held}

-- ---- the block of an accepted file

pub block_is : (file marks : List ℕ) → (read_file file).verdict ≡ verdict.Accepted → length marks ≡ numbers (sizes_of (read_file file).program)
    → block_text file marks 180235 ≡ block_of (read_file file).program marks
unfolding block_text checked first_met
block_is file marks h n = rw (h, n, eq-eqb (numbers (sizes_of (read_file file).program)) (numbers (sizes_of (read_file file).program)) refl)

-- ---- the analysis of a file

-- no buffer is asked for
pub unchecked : (file : List ℕ) → checked file None None None ≡ (read_file file).verdict
unfolding checked first_met
unchecked file = go (read_file file).verdict
  where
    go : (v : Verdict) → checked_by v (numbers (sizes_of (read_file file).program)) None None None ≡ v
    go verdict.Accepted = refl
    go (verdict.Refused n line) = refl

-- no admitted sizes need more iterations
pub most-iterations : {Z : Sizes} → Admitted Z → enough_iterations Z ≤ most_iterations
unfolding enough_iterations
most-iterations {Z} a =
    let few : 1 + summaries Z ≤ 4097 = omega (arith, summaries_few a) in
    let h = mul-le-mul {n₁ = numbers Z} {m₁ = 1 + summaries Z} {n₂ = 16384} {m₂ = 4097} a.product few in
    omega arith

-- the marks and the working buffer have their length, where the file is accepted
module _ (file marks work : List ℕ) (m : (read_file file).verdict ≡ verdict.Accepted → length marks ≡ numbers (sizes_of (read_file file).program))
    (k : (read_file file).verdict ≡ verdict.Accepted → length work ≡ numbers (sizes_of (read_file file).program)) where
  is_verdict : checked_limit file marks work most_iterations ≡ (read_file file).verdict
  unfolding checked first_met
  is_verdict = go (read_file file).verdict refl
    where
      p : Program
      p = (read_file file).program

      go : (v : Verdict) → (read_file file).verdict ≡ v
          → followed_by (checked_by v (numbers (sizes_of p)) (Some (length marks)) None (Some (length work))) (limited p most_iterations) ≡ v
      go verdict.Accepted e =
          let w = accepted_well_formed file e in
          let enough = enough_accepted p most_iterations (omega (arith, iterations_bound (sizes_of p) (usable p w) p, most-iterations (admitted p w))) in
          rw (m e, k e, eq-eqb (numbers (sizes_of p)) (numbers (sizes_of p)) refl, enough) refl
      go (verdict.Refused n line) e = refl

  pub analyze_refuses : {n line : ℕ} → analyzed.Refused n line ≡ analyze_answer file marks work most_iterations → (read_file file).verdict ≡ verdict.Refused n line
  unfolding analyze_answer
  analyze_refuses {n} {line} e = go (read_file file).verdict (rw is_verdict at e)
    where
      go : (v : Verdict) → analyzed.Refused n line ≡ analyze_by v (read_file file).program → v ≡ verdict.Refused n line
      go verdict.Accepted x = absurd (let z : ◌≡◌ {A = ℕ} 0 1 = cc in omega arith)
      go (verdict.Refused i at) x = cc

  pub fresh_after : (read_file file).verdict ≡ verdict.Accepted → marks_after file marks work most_iterations ≡ fresh_marks (read_file file).program
  unfolding marks_after
  fresh_after h = rw (is_verdict, h)

-- four digits hold the line of every refusal
pub refusal_is : (file : List ℕ) (n line : ℕ) → (read_file file).verdict ≡ verdict.Refused n line → file_refusal n line 180235 ≡ refused_file n line
refusal_is file n line h =
    let w : line % 65536 ≡ line = omega (arith, few_lines file n line h) in
    ap (refused_file n) w

-- ---- the repair of what is held

-- what was written, at the start of the output
pub take_written : (p : Program) (output : List ℕ) → take (length (written p)) (written p ++ drop (length (written p)) output) ≡ written p
take_written p output = take-append_seam (written p) (drop (length (written p)) output)

module _ (line : List ℕ) (d : Desk) where
  -- what is printed of an accepted repair is a block: the new file is accepted, and the marks have their length
  abbrev Same : After → Type 0
  Same a = edited_text a.answer (after a d.file) ≡ text_by a.answer (after a d.file)

  repaired_text : (e : Edit) (p : Program) (marks output work : List ℕ) → WellFormed p → Same (repaired_to (step e) p marks output work [])
  repaired_text e p marks output work w =
      let same : p ≡ (read_file (written p)).program = sym (ap (λ (o : Outcome). o.program) (read_again p w)) in
      rw (take_written p output)
      (block_is (written p) (fresh_marks p) (ap (λ (o : Outcome). o.verdict) (read_again p w))
      (marks-length (sizes_of p) (usable p w) p ∙ ap (λ (q : Program). numbers (sizes_of q)) same))

  wanted_text : (p : Program) (w : EditRead) → WellFormed p → wanted_edit p line ≡ w → Same (wanted_by (of_edit w) p d.marks no_output (no_work (length d.marks)) [])
  unfolding first_met
  wanted_text p (read.Refused n) f h = refl
  wanted_text p (read.Read e) f h =
      let k : List ℕ = no_work (length d.marks) in
      by_marks p d.marks (λ v. Same (owned_by v (step e) (edited_program e p) d.marks no_output k []))
      (λ t. repaired_text e (edited_program e p) d.marks no_output k (applied_well_formed e p f (wanted_applies p line e h))) (λ t. refl)

  pub edited-text : Same (edit_on line d)
  unfolding repaired
  edited-text = go (checked_repair EditLine d.file d.marks no_output (no_work (length d.marks))) refl
    where
      p : Program
      p = (read_file d.file).program

      go : (v : Verdict) → checked_repair EditLine d.file d.marks no_output (no_work (length d.marks)) ≡ v → Same (repaired_by EditLine v p d.marks line no_output (no_work (length d.marks)) [])
      go (verdict.Refused n at) h = refl
      go verdict.Accepted h =
          wanted_text p (wanted_edit p line)
          (passes d.file (Some (length d.marks)) (Some (length no_output)) (Some (length (no_work (length d.marks)))) h).well_formed refl

-- ---- what is held next

-- what was lent of an array, in its place again
pub front_part : {n : ℕ} (part rest : List ℕ) → length part ≡ n → take n (part ++ rest) ≡ part
front_part part rest e = ap (λ (m : ℕ). take m (part ++ rest)) (sym e) ∙ take-append_seam part rest

pub held_front : {f : List ℕ} {n : ℕ} (part rest : List ℕ) → length part ≡ n
    → ◌≡◌ {A = Desk} (record { file = f; marks = take n (part ++ rest) }) (record { file = f; marks = part })
held_front {f} part rest e = λ i. record { file = f; marks = front_part part rest e i }

pub zeros_counted : (n : ℕ) → n ≤ 16384 → n ≡ length {A = ℕ} (take n (replicate 16384 0))
zeros_counted n h = sym (length-take-le {A = ℕ} n (replicate 16384 0) (omega (arith, length-replicate {A = ℕ} 16384 0)))

-- the front of zeros is zeros
take_zeros : (n m : ℕ) → n ≤ m → take n (replicate m 0) ≡ replicate {A = ℕ} n 0
take_zeros zero m h = refl
take_zeros (suc n) zero h = absurd (omega arith)
take_zeros (suc n) (suc m) h = ap (λ (l : List ℕ). 0 ∷ l) (take_zeros n m (omega arith))

-- a repair of what is held, as its function has it at hand: `used` and `size` are the counts of the held file's and marks' bytes
pub edited : (line : List ℕ) (h h' : Held) {used size : ℕ} {answer : WriteAnswer} {marks output work : List ℕ} → Within h.used h.file used
    → Within h.size h.marks size → size ≤ 16384
    → ◌≡◌ {A = After} (record { answer = answer; marks = marks; output = output; work = work; second = [] })
    (repaired EditLine (take used h.file) (take size h.marks) line no_output (take size (replicate 16384 0)) [])
    → held_of h' ≡ record { file = file_by answer output (take used h.file); marks = marks }
    → (answer ≡ (edit_on line (held_of h)).answer) × (held_of h' ≡ after (edit_on line (held_of h)) (held_of h).file)
unfolding no_work
edited line h h' {used = used} {size = size} {answer} {marks} {output} {work} w v few e k =
    let clear : take size (replicate 16384 0) ≡ no_work (length (held_of h).marks) = take_zeros size 16384 few ∙ ap no_work (v.counted ∙ ap length v.front) in
    let x : ◌≡◌ {A = After} (record { answer = answer; marks = marks; output = output; work = work; second = [] }) (edit_on line (held_of h)) =
    e ∙ (λ i. repaired EditLine (w.front i) (v.front i) line no_output (clear i) []) in
    (ap (λ (a : After). a.answer) x, k ∙ (λ i. after (x i) (w.front i)))
