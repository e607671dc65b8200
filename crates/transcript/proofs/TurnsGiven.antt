-- What the functions of the turns give is what they promise, by what the functions below promise.
use mathlib.Core.Path.{◌≡◌, ap, subst, ◌∙◌}
use mathlib.Core.List.{List}
use Prim.Native.Nat.{ℕ, ◌+◌, ◌<◌, ◌≤◌}
use lib.ListN.{length, take, drop}
use borrow.Author.Tests.{lt-ltb, le-ltb}
use Rattle.text.specs.Lines.{lines}
use Rattle.program.specs.Chosen.{sizes_of}
use Rattle.program.proofs.Theorems.{accepted_well_formed}
use Rattle.reach.proofs.ProgramInSizes.{usable}
use Rattle.program.specs.Reading.{read_file}
use Rattle.program.specs.Verdicts as verdict
use Rattle.writer.specs.WriteAnswers.{WriteAnswer}
use Rattle.reach.specs.Marks.{fresh_marks}
use Rattle.reach.proofs.ShapeKept.{marks-length}
use Rattle.repair.specs.Repairs.{After}
use Rattle.repair.specs.Desk.{Desk, started, after}
use Rattle.input.specs.Input.{file_size, first_size}
use Rattle.report.specs.Report.{block_text, edit_refusal, file_refusal, Printed}
use Rattle.transcript.specs.Transcript.{held_of, nothing, TurnGives, file_of, begun_by, begun, line_at, edit_on, text_by, turned}
use Rattle.transcript.specs.Parts.{edited_text}
use Rattle.transcript.specs.declared.Held.{Held}
use Rattle.transcript.specs.declared.Turn.{Turn}
use Rattle.transcript.proofs.AnswersPrinted.{block_is, refusal_is, edited-text}

module _ (input old : List ℕ) {new : List ℕ} where
  pub gives_too_long : {t : Turn} {size : ℕ} → 16384 < length input → Printed (edit_refusal 18 180235) old new size
      → (t.size ≡ size) × ((t.next ≡ length input) × (held_of t.held ≡ nothing)) → TurnGives (begun input) old new t
  unfolding begun
  gives_too_long h g k = rw (lt-ltb 16384 (length input) h) (record { printed = rw k.0 g; next = k.1.0; held = k.1.1 })

  pub gives_file : {t : Turn} → length input ≤ 16384 → TurnGives (begun_by (read_file (file_of input)).verdict (read_file (file_of input)).program input) old new t
      → TurnGives (begun input) old new t
  unfolding begun
  gives_file h g = rw (le-ltb 16384 (length input) h) g

  module _ {end : ℕ} (e : end ≡ file_size (lines input)) where
    pub gives_refusal : {t : Turn} {size n line : ℕ} → (read_file (take end input)).verdict ≡ verdict.Refused n line → Printed (file_refusal n line 180235) old new size
        → (t.size ≡ size) × ((t.next ≡ length input) × (held_of t.held ≡ nothing))
        → TurnGives (begun_by (read_file (file_of input)).verdict (read_file (file_of input)).program input) old new t
    gives_refusal {t} {size} {n} {line} v g k =
        let v' : (read_file (file_of input)).verdict ≡ verdict.Refused n line = rw e at v in
        rw v' (record { printed = rw (k.0, ← refusal_is (file_of input) n line v') g; next = k.1.0; held = k.1.1 })

    pub gives_block : {h : Held} {size : ℕ} → (read_file (take end input)).verdict ≡ verdict.Accepted
        → held_of h ≡ started (take end input)
        → Printed (block_text (held_of h).file (held_of h).marks 180235) old new size
        → TurnGives (begun_by (read_file (file_of input)).verdict (read_file (file_of input)).program input) old new (record { size = size; next = end; held = h })
    gives_block {h} {size} v k g =
        let v' : (read_file (file_of input)).verdict ≡ verdict.Accepted = rw e at v in
        let k' : held_of h ≡ started (file_of input) = k ∙ rw e in
        let p = (read_file (file_of input)).program in
        let b = block_is (file_of input) (fresh_marks p) v' (marks-length (sizes_of p) (usable p (accepted_well_formed (file_of input) v')) p) in
        let g' = subst (λ (d : Desk). Printed (block_text d.file d.marks 180235) old new size) k' g in
        rw v' (record { printed = subst (λ (t : List ℕ). Printed t old new size) b g'; next = e; held = k' })

  pub gives_turn : (at : ℕ) (d : Desk) {h : Held} {size n : ℕ} {line : List ℕ} {answer : WriteAnswer} → n ≡ first_size (lines (drop at input)) → line ≡ line_at input at
      → (answer ≡ (edit_on line d).answer) × (held_of h ≡ after (edit_on line d) d.file)
      → Printed (edited_text answer (held_of h)) old new size
      → TurnGives (turned input at d) old new (record { size = size; next = at + n; held = h })
  unfolding turned
  gives_turn at d {h} {size} {n} {line} {answer} e l k g =
      let a : After = edit_on (line_at input at) d in
      let x : answer ≡ a.answer = rw l at k.0 in
      let y : held_of h ≡ after a d.file = rw l at k.1 in
      let t : edited_text answer (held_of h) ≡ text_by a.answer (after a d.file) = (λ i. edited_text (x i) (y i)) ∙ edited-text (line_at input at) d in
      record { printed = subst (λ (s : List ℕ). Printed s old new size) t g; next = ap (λ (m : ℕ). at + m) e; held = y }
