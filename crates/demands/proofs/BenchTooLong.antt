-- Refusal 18: `bench` prints it alone, exactly for an input that is too long.
use mathlib.Core.Path.{◌≡◌, refl, sym, ap, ◌∙◌}
use mathlib.Core.Logic.{◌↔◌}
use mathlib.Core.Bool.{Bool, true, false, cond}
use mathlib.Core.List.{List, [], ◌∷◌, ◌++◌, map}
use Prim.Native.Nat.{ℕ, ◌<◌}
use native.Mathlib.Omega.{arith}
use lib.Dec.{ltb}
use lib.ListN.{length, get_or, take, drop}
use borrow.Author.Tests.{ltb-true, lt-ltb}
use Rattle.text.specs.Hex.{hex}
use Rattle.text.specs.Lines.{lines}
use Rattle.program.specs.Chosen.{sizes_of}
use Rattle.program.specs.Program.{Program}
use Rattle.program.specs.Reading.{read_file}
use Rattle.program.specs.Writing.{text}
use Rattle.program.specs.Verdicts.{Verdict}
use Rattle.program.specs.Verdicts.{Accepted, Refused}
use Rattle.reach.specs.Marks.{fresh_marks, violations_from}
use Rattle.base.specs.Flags.{count_set}
use Rattle.input.specs.Input.{file_size}
use Rattle.report.specs.Report.{violation_frame, count_frame, block_at, block_of, too_long_text, edits_text, file_text, input_text, bench_text}

-- the digit 5 begins every block
block_first : (p : Program) (marks more : List ℕ) → get_or (block_of p marks ++ more) 0 0 ≡ 0x35
unfolding block_at text hex
block_first p marks more = go (violations_from (sizes_of p) p marks 0) (count_set marks) (length (violations_from (sizes_of p) p marks 0))
  where
    go : (vs : List ℕ) (c v : ℕ) → get_or (text (map (violation_frame (sizes_of p)) vs ++ count_frame c v ∷ []) ++ more) 0 0 ≡ 0x35
    go [] c v = refl
    go (i ∷ is) c v = refl

-- no file is answered so
other_answer : (v : Verdict) (p : Program) (ls : List (List ℕ)) → ¬ (file_text v p ls ≡ too_long_text)
unfolding hex
other_answer Accepted p ls h =
    let first : 0x35 ≡ get_or too_long_text 0 0 = sym (block_first p (fresh_marks p) (edits_text p ls)) ∙ ap (λ l. get_or l 0 0) h in
    let z : ◌≡◌ {A = ℕ} 0x35 0x32 = first in absurd (omega arith)
other_answer (Refused n line) p ls h = let z : ◌≡◌ {A = ℕ} 9 5 = ap length h in absurd (omega arith)

pub too_long : (input : List ℕ) → (bench_text input ≡ too_long_text) ↔ (16384 < length input)
unfolding bench_text
too_long input = (go (ltb 16384 (length input)) refl, λ h. ap (λ t. cond t too_long_text (input_text input (file_size (lines input)))) (lt-ltb 16384 (length input) h))
  where
    go : (t : Bool) → ltb 16384 (length input) ≡ t → cond t too_long_text (input_text input (file_size (lines input))) ≡ too_long_text → 16384 < length input
    go true e h = ltb-true 16384 (length input) e
    go false e h =
        let file = take (file_size (lines input)) input in
        absurd (other_answer (read_file file).verdict (read_file file).program (lines (drop (file_size (lines input)) input)) h)
