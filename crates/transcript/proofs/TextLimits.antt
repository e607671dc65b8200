-- How long a text is, and that each turn comes further.
use mathlib.Core.Path.{◌≡◌, refl, ap, ◌∙◌}
use mathlib.Core.Bool.{Bool, true, false, cond}
use mathlib.Core.List.{List}
use Prim.Native.Nat.{ℕ, ◌<◌, ◌≤◌}
use native.Mathlib.Omega.{arith}
use lib.Dec.{ltb}
use lib.ListN.{length, drop, length-append, length-drop}
use Rattle.text.specs.Lines.{lines}
use Rattle.text.proofs.RoundTrip.{length_hex}
use Rattle.program.specs.Chosen.{sizes_of}
use Rattle.program.proofs.ChosenSizes.{admitted}
use Rattle.program.proofs.Theorems.{accepted_well_formed}
use Rattle.reach.proofs.ProgramInSizes.{usable}
use Rattle.program.specs.Program.{Program}
use Rattle.program.specs.Reading.{read_file}
use Rattle.program.specs.Checks.{checked}
use Rattle.program.specs.Verdicts.{Verdict}
use Rattle.program.specs.Verdicts as verdict
use Rattle.std.specs.Prelude.{None, Some}
use Rattle.program.proofs.ChecksPassed.{passes}
use Rattle.writer.specs.WriteAnswers.{WriteAnswer}
use Rattle.writer.specs.WriteAnswers.{Written, Refused}
use Rattle.reach.specs.Marks.{fresh_marks}
use Rattle.reach.proofs.ShapeKept.{marks-length}
use Rattle.repair.specs.Repairs.{After}
use Rattle.repair.specs.Desk.{Desk, after}
use Rattle.input.specs.Input.{first_size}
use Rattle.report.specs.Report.{block_by, block_text, refused_edit, refused_file, too_long_text}
use Rattle.input.proofs.LineEnds.{line_inside}
use Rattle.report.proofs.Theorems.{block_limited}
use Rattle.transcript.specs.Transcript.{Shown, TurnGives, file_of, begun_by, begun, line_at, edit_on, turned, alone}
use Rattle.transcript.specs.declared.Turn.{Turn}
use Rattle.transcript.specs.Parts.{edited_text}
use Rattle.transcript.proofs.AnswersPrinted.{edited-text}

edit_line_long : (n : ℕ) → length (refused_edit n) ≡ 5
edit_line_long n = simp (length-append, length_hex)

file_line_long : (n line : ℕ) → length (refused_file n line) ≡ 9
file_line_long n line = simp (length-append, length_hex)

block_short : (file marks : List ℕ) → length (block_text file marks 180235) ≤ 180235
unfolding block_text
block_short file marks = go (checked file (Some (length marks)) None None) refl
  where
    go : (v : Verdict) → checked file (Some (length marks)) None None ≡ v → length (block_by v (read_file file).program marks 180235) ≤ 180235
    go verdict.Accepted e =
        let p = (read_file file).program in
        let k = passes file (Some (length marks)) None None e in
        block_limited (sizes_of p) (usable p k.well_formed) (admitted p k.well_formed) p marks k.sized.marks-length
    go (verdict.Refused n line) e = omega arith

edited_limited : (a : WriteAnswer) (d : Desk) → length (edited_text a d) ≤ 180235
edited_limited (Written n) d = block_short d.file d.marks
edited_limited (Refused n line) d = omega (arith, edit_line_long n)

pub begun_short : (input : List ℕ) → length (begun input).text ≤ 180235
unfolding begun
begun_short input = go (ltb 16384 (length input)) (read_file (file_of input)).verdict refl
  where
    p : Program
    p = (read_file (file_of input)).program

    go : (b : Bool) (v : Verdict) → (read_file (file_of input)).verdict ≡ v → length (cond b (alone too_long_text input) (begun_by v p input)).text ≤ 180235
    go true v e = omega (arith, edit_line_long 18)
    go false verdict.Accepted e =
        let w = accepted_well_formed (file_of input) e in
        block_limited (sizes_of p) (usable p w) (admitted p w) p (fresh_marks p) (marks-length (sizes_of p) (usable p w) p)
    go false (verdict.Refused n line) e = omega (arith, file_line_long n line)

pub turned_short : (input : List ℕ) (at : ℕ) (d : Desk) → length (turned input at d).text ≤ 180235
unfolding turned
turned_short input at d =
    let a : After = edit_on (line_at input at) d in
    let e = edited-text (line_at input at) d in
    omega (arith, ap length e, edited_limited a.answer (after a d.file))

-- So an output that is as long keeps its length, and what is printed lies in it.
pub text_within : {s : Shown} {old new : List ℕ} {t : Turn} → length s.text ≤ length old → TurnGives s old new t → (length new ≡ length old) × (t.size ≤ length new)
text_within {s} {old} {new} h g =
    let n : length new ≡ length old = ap length g.printed.1 ∙ simp (length-append, length-drop) (omega arith) in
    (n, omega (arith, g.printed.0))

-- While a line is left, the next turn starts past it: so the turns end.
pub turn_advances : (input : List ℕ) (d : Desk) {old new : List ℕ} {at : ℕ} {t : Turn} → at < length input → TurnGives (turned input at d) old new t → at < t.next
unfolding turned
turn_advances input d {at = at} h g = omega (arith, g.next, line_inside input at (first_size (lines (drop at input))) h refl)
