-- Which files are accepted, what is written of them, and what their rows say.
use mathlib.Core.Path.{◌≡◌, refl, sym, ap, ◌∙◌}
use mathlib.Core.Logic.{◌↔◌, ◌≢◌}
use mathlib.Core.List.{List, []}
use Prim.Native.Nat.{ℕ}
use native.Mathlib.Omega.{arith}
use lib.ListN.{length, take, drop}
use lib.Seq.{take-append_seam}
use Rattle.program.specs.Program.{Program}
use Rattle.program.specs.Writing.{written}
use Rattle.program.specs.Reading.{Outcome, accepted, read_file, rows_in, refusal}
use Rattle.program.specs.Verdicts.{Verdict}
use Rattle.program.specs.Verdicts.{Accepted, Refused}
use Rattle.std.specs.Prelude.{None, Some}
use Rattle.program.proofs.Theorems.{accepted_well_formed, accepted_rows, few_lines, written_back, no_row_written, same_without_rows, rows_read, read_again, read_again_with, rows_again, limited_with, written_limited}
use Rattle.program.proofs.TableWellFormed.{TableOf}
use Rattle.program.proofs.TableDetermined.{determined}
use Rattle.rows.specs.Rows.{TableRow}
use Rattle.rows.proofs.TableListed.{met_once, table_listed, one_transition}
use Rattle.program.proofs.ChecksPassed.{passes, few_checks}
use Rattle.writer.specs.Answers.{answer_by, output_by, checked_output, write_answer, output_after, refusal as writeRefusal, written_length}
use Rattle.desk.specs.Entries.{read, write, Lent, Back, program_in, Gives}
use Rattle.demands.specs.Demands.{FileOf, Acceptance, Tabulated, with_written, WrittenFile}
use Rattle.demands.specs.Lists.{wrote}

-- a file that is not refused is accepted
pub not_refused : (b : Lent) → refusal (read_file b.file).verdict ≡ 0 → (read_file b.file).verdict ≡ Accepted
not_refused b = go (read_file b.file).verdict refl
  where
    go : (v : Verdict) → (read_file b.file).verdict ≡ v → refusal v ≡ 0 → v ≡ Accepted
    go Accepted h z = refl
    go (Refused n line) h z = absurd (omega (arith, few_lines b.file n line h))

is_accepted : (b : Lent) (a : Back) → Gives read b a → a.refusal ≡ 0 → (read_file b.file).verdict ≡ Accepted
is_accepted b a g z = not_refused b (sym (ap (λ (x : Back). x.refusal) g) ∙ z)

-- ---- a table, pair by pair, and as the definitions make it

from_table : (p : Program) (rs : List TableRow) → TableOf p rs → Tabulated p rs
from_table p rs t =
    let q = p.automaton.states in
    let k = p.automaton.actions in
    record {
      met_once = met_once rs q k t.met;
      by_row = λ x a s. rw t.transitions (table_listed rs q k t.met x a s);
      one_each = λ x a h l. rw t.transitions (one_transition rs q k t.met x a h l);
    }

to_table : (p : Program) (rs : List TableRow) (file : List ℕ) → FileOf p rs file → rs ≢ [] → TableOf p rs
to_table p rs file f n = let t = f.table n in determined p f.well_formed rs f.rows.rows_fit t.met_once t.by_row

-- ---- accepted files

-- the file of a program and rows is read as that program, and the rows are its rows
module _ (p : Program) (rs : List TableRow) (file : List ℕ) (f : FileOf p rs file) where
  is_read : read_file file ≡ accepted p
  is_read = ap read_file f.is_written ∙ read_again_with p f.well_formed rs f.rows (to_table p rs file f)

  rows_are : rows_in file ≡ rs
  rows_are = ap rows_in f.is_written ∙ rows_again p f.well_formed rs f.rows (to_table p rs file f)

-- and an accepted file is that of its program and its rows
is_file : (file : List ℕ) → (read_file file).verdict ≡ Accepted → FileOf (read_file file).program (rows_in file) file
is_file file h = record {
  well_formed = accepted_well_formed file h;
  rows = accepted_rows file h;
  table = λ n. from_table (read_file file).program (rows_in file) (rows_read file h n);
  is_written = sym (written_back file h);
}

pub file_acceptance : (b : Lent) (a : Back) → Gives read b a → Acceptance b a
file_acceptance b a g =
    record {
      accepted = (
        λ z. (program_in b, rows_in b.file, is_file b.file (is_accepted b a g z)),
        λ f. ap (λ (x : Back). x.refusal) g ∙ ap (λ (o : Outcome). refusal o.verdict) (is_read f.0 f.1 b.file f.2),
      );
      its-program = λ p rs f. ap (λ (o : Outcome). o.program) (is_read p rs b.file f);
      its_rows = λ p rs f. rows_are p rs b.file f;
      its_size = λ p rs f. rw f.is_written (limited_with p f.well_formed rs f.rows);
    }

-- ---- what is written of an accepted file

-- it is the file's program, written
record Wrote (b : Lent) (a : Back) : Type 0 where
  file_accepted : (read_file b.file).verdict ≡ Accepted
  bytes : wrote a ≡ written (program_in b)

wrote_program : (b : Lent) (a : Back) → Gives write b a → a.refusal ≡ 0 → Wrote b a
unfolding write_answer output_after
wrote_program b a g z =
    let w = go (checked_output b.file b.output) refl (sym (ap (λ (x : Back). x.refusal) g) ∙ z) in
    record { file_accepted = w.0; bytes = ap wrote g ∙ w.1 }
  where
    go : (v : Verdict) → checked_output b.file b.output ≡ v → writeRefusal (answer_by v (program_in b)) ≡ 0
        → ((read_file b.file).verdict ≡ Accepted)
        × (take (written_length (answer_by v (program_in b))) (output_by v (program_in b) b.output) ≡ written (program_in b))
    go Accepted h y = (
      (passes b.file None (Some (length b.output)) None h).file_accepted,
      take-append_seam (written (program_in b)) (drop (length (written (program_in b))) b.output),
    )
    go (Refused n line) h y = absurd (omega (arith, few_checks b.file None (Some (length b.output)) None h))

pub comes_back : (b : Lent) (a : Back) → Gives write b a → a.refusal ≡ 0 → (wrote a ≡ b.file) ↔ (rows_in b.file ≡ [])
comes_back b a g z =
    let w = wrote_program b a g z in
    let s = same_without_rows b.file w.file_accepted in
    (λ e. s.0 (sym w.bytes ∙ e), λ e. w.bytes ∙ s.1 e)

pub written_accepted : (b : Lent) (a c : Back) → Gives write b a → a.refusal ≡ 0 → Gives read (with_written b a) c → WrittenFile b a c
written_accepted b a c g z r =
    let w = wrote_program b a g z in
    let p = program_in b in
    let f = accepted_well_formed b.file w.file_accepted in
    let again : read_file (wrote a) ≡ accepted p = ap read_file w.bytes ∙ read_again p f in
    record {
      accepted = ap (λ (x : Back). x.refusal) r ∙ ap (λ (o : Outcome). refusal o.verdict) again;
      no_row = ap rows_in w.bytes ∙ no_row_written p f;
      same_program = ap (λ (o : Outcome). o.program) again;
      its_size = rw w.bytes (written_limited p f);
    }

-- ---- the table of an accepted file with rows

pub tabulated : (b : Lent) (a : Back) → Gives read b a → a.refusal ≡ 0 → rows_in b.file ≢ [] → Tabulated (program_in b) (rows_in b.file)
tabulated b a g z = (is_file b.file (is_accepted b a g z)).table
