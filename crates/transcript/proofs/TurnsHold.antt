-- From turn to turn: the held file is read as the program so far, and the held marks are its own.
use mathlib.Core.Path.{◌≡◌, refl, sym, ap, subst, ◌∙◌}
use mathlib.Core.Bool.{Bool, true, false, cond}
use mathlib.Core.List.{List, [], ◌∷◌, ◌++◌, flatten, append-nil}
use Prim.Native.Nat.{ℕ, ◌+◌, ◌≤◌}
use native.Mathlib.Omega.{arith}
use lib.Dec.{ltb}
use lib.ListN.{length, take, drop, length-replicate, drop_of_length-le}
use Rattle.text.specs.Lines.{lines}
use Rattle.program.specs.Program.{Program}
use Rattle.program.specs.WellFormed.{WellFormed}
use Rattle.program.specs.Reading.{Outcome, accepted, read_file}
use Rattle.program.specs.Checks.{first_met, checked_by, checked}
use Rattle.program.specs.Verdicts.{Verdict}
use Rattle.program.specs.Verdicts as verdict
use Rattle.program.proofs.Theorems.{accepted_well_formed, accepted_as}
use Rattle.program.specs.Chosen.{sizes_of, numbers}
use Rattle.reach.proofs.ProgramInSizes.{usable}
use Rattle.std.specs.Prelude.{Some}
use Rattle.exchange.specs.Changes.{EditLine}
use borrow.Author.Tests.{eq-eqb}
use Rattle.reach.specs.Marks.{fresh_marks}
use Rattle.reach.proofs.ShapeKept.{marks-length}
use Rattle.analysis.proofs.AnswersByChecks.{same_self}
use Rattle.edit.specs.Editing.{edited_program}
use Rattle.edit_line.specs.EditLines.{wanted_edit}
use Rattle.edit.specs.EditReads.{EditRead}
use Rattle.edit.specs.EditReads as read
use Rattle.edit.proofs.Theorems.{applied_well_formed, edited_read}
use Rattle.edit_line.proofs.Theorems.{wanted_applies}
use Rattle.exchange_text.specs.Wanted.{of_edit}
use Rattle.repair.specs.Repairs.{After, wanted_by, repaired_by, repaired}
use Rattle.repair.specs.Desk.{Desk, started}
use Rattle.input.specs.Input.{first_size, file_size}
use Rattle.report.specs.Report.{edit_text, program_after, edits_text, block_of, too_long_text, file_text, input_text, bench_text}
use Rattle.input.proofs.LineEnds.{next-line}
use Rattle.transcript.specs.Transcript.{held_of, Shown, TurnGives, line_at, no_output, no_work, edit_on, turned_by, turned, Turns, over, turn, file_of, alone, begun_by, begun}
use Rattle.transcript.specs.declared.Turn.{Turn}
use Rattle.transcript.proofs.ListParts.{printed_front}
use Rattle.transcript.proofs.AnswersPrinted.{take_written}

-- a file that is read as a program, and the marks of that program
record Holds (p : Program) (d : Desk) : Type 0 where
  well_formed : WellFormed p
  file : read_file d.file ≡ accepted p
  marks : d.marks ≡ fresh_marks p

-- what a turn shows for an edit, with the next program held
record Turned (w : EditRead) (p : Program) (next : ℕ) (s : Shown) : Type 0 where
  text : s.text ≡ edit_text w p
  at : s.next ≡ next
  held : Holds (program_after w p) s.held

module _ (p : Program) (d : Desk) (k : Holds p d) where
  abbrev size : ℕ
  size = numbers (sizes_of p)

  abbrev clear : List ℕ
  clear = no_work size

  -- on a program's own file and marks nothing is left to refuse but the line
  edit-on : (line : List ℕ) → edit_on line d ≡ wanted_by (of_edit (wanted_edit p line)) p (fresh_marks p) no_output clear []
  unfolding repaired checked first_met no_output no_work
  edit-on line = (λ i. by (k.file i) (k.marks i)) ∙ rw (marks-length (sizes_of p) (usable p k.well_formed) p, length-replicate {A = ℕ} size 0, eq-eqb size size refl)
    where
      by : Outcome → List ℕ → After
      by o m =
          repaired_by EditLine (checked_by o.verdict (numbers (sizes_of o.program)) (Some (length m)) (Some (length no_output)) (Some (length (no_work (length m)))))
          o.program m line no_output (no_work (length m)) []

  -- the turn of a line is what the definition prints for it
  wanted_turn : (line : List ℕ) (next : ℕ) (w : EditRead) → wanted_edit p line ≡ w
      → Turned w p next (turned_by (wanted_by (of_edit w) p (fresh_marks p) no_output clear []) d.file next)
  unfolding first_met
  wanted_turn line next (read.Refused n) h =
      record { text = refl; at = refl; held = record { well_formed = k.well_formed; file = k.file; marks = refl } }
  wanted_turn line next (read.Read e) h =
      let a = wanted_applies p line e h in
      let q = edited_program e p in
      let r = edited_read e p k.well_formed a in
      rw (same_self (fresh_marks p), take_written q no_output)
      (record { text = rw r; at = refl; held = record { well_formed = applied_well_formed e p k.well_formed a; file = r; marks = refl } })

  is_turn : (input : List ℕ) (at : ℕ) → Turned (wanted_edit p (line_at input at)) p (at + first_size (lines (drop at input))) (turned input at d)
  unfolding turned
  is_turn input at = rw (edit-on (line_at input at)) (wanted_turn (line_at input at) (at + first_size (lines (drop at input))) (wanted_edit p (line_at input at)) refl)

-- what is printed from a turn on is what the definition says of the lines that are left
turns_text : {input : List ℕ} {t : Turn} {texts : List (List ℕ)} (p : Program) → Holds p (held_of t.held) → Turns input t texts
    → flatten texts ≡ edits_text p (lines (drop t.next input))
unfolding edits_text lines flatten
turns_text {input} p k (over h) = rw (drop_of_length-le input h)
turns_text {input} {t} p k (turn {t' = t'} {old = old} {new = new} {texts = texts} h g ts) =
    let at : ℕ = t.next in
    let l : List ℕ = line_at input at in
    let next : ℕ = at + first_size (lines (drop at input)) in
    let q : Program = program_after (wanted_edit p l) p in
    let s : Turned (wanted_edit p l) p next (turned input at (held_of t.held)) = is_turn p (held_of t.held) k input at in
    let front : take t'.size new ≡ edit_text (wanted_edit p l) p = printed_front (turned input at (held_of t.held)).text old g.printed ∙ s.text in
    let rest : flatten texts ≡ edits_text q (lines (drop next input)) =
    turns_text q (subst (Holds q) (sym g.held) s.held) ts ∙ ap (λ (n : ℕ). edits_text q (lines (drop n input))) (g.next ∙ s.at) in
    (λ i. front i ++ rest i) ∙ sym (ap (edits_text p) (next-line input at (first_size (lines (drop at input))) h refl))

-- after the input's end there is no turn
no_turns : {input : List ℕ} {t : Turn} {texts : List (List ℕ)} → length input ≤ t.next → Turns input t texts → flatten texts ≡ []
unfolding flatten
no_turns e (over h) = refl
no_turns e (turn h g ts) = absurd (omega arith)

-- ---- the first turn, and those after it

module _ {input : List ℕ} {t : Turn} {texts : List (List ℕ)} (ts : Turns input t texts) where
  alone_text : {old new : List ℕ} (s : List ℕ) → TurnGives (alone s input) old new t → flatten (take t.size new ∷ texts) ≡ s
  unfolding flatten
  alone_text {old} s g = (λ i. printed_front s old g.printed i ++ no_turns (omega (arith, g.next)) ts i) ∙ append-nil s

  file-text : {old new : List ℕ} (v : Verdict) → (read_file (file_of input)).verdict ≡ v → TurnGives (begun_by v (read_file (file_of input)).program input) old new t
      → flatten (take t.size new ∷ texts) ≡ file_text v (read_file (file_of input)).program (lines (drop (file_size (lines input)) input))
  unfolding flatten
  file-text (verdict.Refused n line) h g = alone_text _ g
  file-text {old} verdict.Accepted h g =
      let p : Program = (read_file (file_of input)).program in
      let own : Holds p (started (file_of input)) =
      record {
        well_formed = accepted_well_formed (file_of input) h;
        file = accepted_as (file_of input) h;
        marks = refl;
      }
      in
      let rest = turns_text p (subst (Holds p) (sym g.held) own) ts ∙ ap (λ (n : ℕ). edits_text p (lines (drop n input))) g.next in
      λ i. printed_front (block_of p (fresh_marks p)) old g.printed i ++ rest i

pub turns_print : {input old new : List ℕ} {t : Turn} {texts : List (List ℕ)} → TurnGives (begun input) old new t → Turns input t texts
    → flatten (take t.size new ∷ texts) ≡ bench_text input
unfolding begun bench_text
turns_print {input} {old} {new} {t} {texts} g ts = go (ltb 16384 (length input)) g
  where
    go : (b : Bool) → TurnGives (cond b (alone too_long_text input) (begun_by (read_file (file_of input)).verdict (read_file (file_of input)).program input)) old new t
        → flatten (take t.size new ∷ texts) ≡ cond b too_long_text (input_text input (file_size (lines input)))
    go true h = alone_text ts too_long_text h
    go false h = file-text ts (read_file (file_of input)).verdict refl h
