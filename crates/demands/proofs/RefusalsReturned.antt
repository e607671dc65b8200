-- Demand 1, function by function: what is returned is of the table, and what a refusal leaves.
use mathlib.Core.Path.{◌≡◌, refl, sym, ap, subst, ◌∙◌}
use mathlib.Core.Logic.{◌≢◌, ◌⊎◌, inl, inr, ⊎_elim}
use mathlib.Core.Bool.{Bool, true, false, cond, ◌||◌, not}
use mathlib.Core.Option.{Option, some, none}
use mathlib.Core.List.{List, [], ◌∷◌, ◌++◌}
use Prim.Native.Nat.{ℕ, ◌<◌, ◌≤◌}
use native.Mathlib.Omega.{arith}
use lib.Dec.{eqb, ltb}
use lib.ListN.{length, replicate}
use borrow.Author.Tests.{eqb-true, eqb-false, ne_eqb}
use Rattle.base.proofs.Bools.{chosen}
use Rattle.program.specs.Program.{Program}
use Rattle.text.specs.declared.Line.{Line}
use Rattle.program.specs.Chosen.{sizes_of, numbers}
use Rattle.program.specs.Reading.{read_file}
use Rattle.program.specs.Checks.{Row, first_met, verdict_of, other_than, buffer_rows, checked, followed_by}
use Rattle.program.specs.Verdicts.{Verdict}
use Rattle.program.specs.Verdicts.{Accepted, Refused}
use Rattle.program.specs.Checks.{Length}
use Rattle.std.specs.Prelude.{None, Some}
use Rattle.program.proofs.Theorems.{few_lines}
use Rattle.program.proofs.ChecksPassed.{CheckedAs, passed, by_file, by_length, checked_file, passes}
use Rattle.writer.specs.Answers.{answer_by, output_by, checked_output, write_answer, output_after, refusal as writeRefusal}
use Rattle.reach.specs.Configurations.{none_set}
use Rattle.reach.specs.Worklist.{analysis}
use Rattle.reach.specs.Marks.{fresh_marks, first_from, violations}
use Rattle.analysis.specs.Answers.{checked_marks, limit_row, limited, analyze_by, analyze_answer, on_success, marks_after, work_after, same, owned, foreign_row, found_of, found_by, next_answer, checked_own, next_found}
use Rattle.blocked.specs.Blocks.{Block, next_block}
use Rattle.block_list.specs.Answers.{block_of, block_by, block_answer, block_found, block_edge}
use Rattle.prune.specs.Pruning.{Pruned}
use Rattle.saved.specs.Saved.{old_sizes, too_large}
use Rattle.saved.specs.Answers.{Way, over, back, own, moved, given_marks, written_by, at_start, move_answer, move_output, move_work}
use Rattle.exchange.specs.Changes.{Change, ChangeRead, Form, EditLine, ExchangeText}
use Rattle.exchange.specs.Changes as change
use Rattle.exchange.specs.Changing.{changed_program}
use Rattle.exchange_text.specs.ExchangeText.{text_lines, exchange_rows, exchange_in, exchange_from, wanted_exchange}
use Rattle.exchange.specs.Lengths.{work_first, measured_rows}
use Rattle.exchange_text.specs.Wanted.{wanted_change}
use Rattle.exchange_text.proofs.Theorems.{change_number}
use Rattle.repair.specs.Repairs.{After, untouched, zeroed, foreign, repaired_to, checked_repair, owned_by, measured_by, wanted_by, repaired_by, repaired}
use Rattle.rewrite.specs.Room.{room_of, room_by, room_wanted, room_answer}
use Rattle.rewrite.specs.RoomAnswers as room
use Rattle.desk.specs.Entries.{Entry, read as reads, sizes, faulty-pair, write, analyze, next_violation, next_blocked, prune, marks_to_frames, frames_to_marks, repair_forward, repair_inside_out, exchange_sizes, exchange_forward, exchange_inside_out, Lent, Back, has_work, tells_pair, Values, no_values, read_back, sizes_back, pair_back, room_back, write_back, analyze_back, finding, blocking, next_back, block_back, prune_back, move_back, repair_back, program_in, repaired_in, RepairGives, InsideOutGives, Gives}
use Rattle.demands.specs.Demands.{Demand1}
use Rattle.demands.specs.Refusals.{marks_length, change_rows, later_rows, repair_rows, marks_rows, move_rows, rows, is_move, clears, FaultyFile, Returned, of_the_file, of_the_rest}
use Rattle.demands.proofs.FileRefusalsTold.{SaysFile, file_told, faulty_number, faulty_once}
use Rattle.demands.proofs.ChangeRefusalsTold.{number_then, change_told, form_read, later_told, MeasuredAs, fitting, unfit, measured_told}

pub both_ways : false ≡ true → ⊥
both_ways e = subst (λ t. cond t ⊥ Unit) e tt

-- what is returned is fixed by the table
returned_once : {e : Entry} {b : Lent} {n line m at : ℕ} → Returned e b n line → Returned e b m at → (n ≡ m) × (line ≡ at)
returned_once (of_the_file f) (of_the_file g) = faulty_once f g
returned_once (of_the_file f) (of_the_rest g) = absurd (g _ _ f)
returned_once (of_the_rest f) (of_the_file g) = absurd (f _ _ g)
returned_once (of_the_rest f) (of_the_rest g) = (refl, refl)

-- ---- refusals that leave the working buffer

-- a call that is refused before these, tells these numbers, and leaves everything
abbrev refused : ℕ → ℕ → Values → Lent → Back
refused n line v b = record { refusal = n; line = line; values = v; marks = b.marks; output = b.output; work = b.work; second = b.second }

-- the number is the table's, not 0, and none that clears the working buffer
pub record Early (e : Entry) (b : Lent) (n line : ℕ) : Type 0 where
  pub returned : Returned e b n line
  pub some_number : n ≢ 0
  pub no_clearing : clears e n ≡ false

-- a number that is neither of two
neither_of : (n a b : ℕ) → n ≢ a → n ≢ b → eqb n a || eqb n b ≡ false
neither_of n a b h k = rw (ne_eqb n a h, ne_eqb n b k)

-- of a function that does not move saved marks, these are neither 17 nor 22
keeping : (e : Entry) {n : ℕ} → is_move e ≡ false → n ≢ 17 → n ≢ 22 → clears e n ≡ false
keeping e {n} m a b = rw m (neither_of n 17 22 a b)

early_telling : {e : Entry} {b : Lent} {n line : ℕ} {v : Values} → (tells_pair e ≡ false → v ≡ no_values) → Early e b n line → Demand1 e b (refused n line v b)
early_telling {e} {b} {n} {line} silent x =
    record {
      returned = x.returned;
      no_other = λ m at r. returned_once r x.returned;
      no_result = λ t h. silent t;
      marks = λ h. refl;
      output = λ h. refl;
      second = λ h. refl;
      work_kept = λ h i. refl;
      work_cleared = λ w. cleared;
    }
  where
    cleared : (n ≡ 0) ⊎ (clears e n ≡ true) → b.work ≡ zeroed b.work
    cleared (inl h) = absurd (x.some_number h)
    cleared (inr h) = absurd (both_ways (sym x.no_clearing ∙ h))

early : {e : Entry} {b : Lent} {n line : ℕ} → Early e b n line → Demand1 e b (refused n line no_values b)
early x = early_telling (λ t. refl) x

-- a length's number, 9 to 11, is such
length_early : {e : Entry} {b : Lent} {n : ℕ} → is_move e ≡ false → 9 ≤ n → n ≤ 11 → Returned e b n 0 → Early e b n 0
length_early {e} {b} {n} m low high r =
    record { returned = r; some_number = λ z. absurd (omega arith); no_clearing = keeping e {n = n} m (λ z. absurd (omega arith)) (λ z. absurd (omega arith)) }

-- so is that of a line or text
change_early : {e : Entry} {b : Lent} → is_move e ≡ false → (k : Form) (p : Program) {n : ℕ} → wanted_change k p b.text ≡ change.Refused n → Returned e b n 0 → Early e b n 0
change_early {e} {b} m k p {n} i r =
    let x = change_number k p b.text n i in
    record { returned = r; some_number = λ y. absurd (omega (arith, x.0)); no_clearing = keeping e {n = n} m x.2 x.3 }

-- ---- no such refusal

-- a call without a working buffer is done
done : {e : Entry} {b : Lent} {v : Values} {output : List ℕ} → has_work e ≡ false → Returned e b 0 0
    → Demand1 e b (record { refusal = 0; line = 0; values = v; marks = b.marks; output = output; work = b.work; second = b.second })
done h r =
    record {
      returned = r;
      no_other = λ m at s. returned_once s r;
      no_result = λ t i. absurd (i refl);
      marks = λ i. refl;
      output = λ i. absurd (i refl);
      second = λ i. refl;
      work_kept = λ i j. refl;
      work_cleared = λ w. absurd (both_ways (sym h ∙ w));
    }

-- a call with one: a refusal that clears it, or it is done
record Spared (e : Entry) (b : Lent) (n : ℕ) (v : Values) (marks output second : List ℕ) : Type 0 where
  clearing : clears e n ≡ true
  no-values : v ≡ no_values
  same_marks : marks ≡ b.marks
  same_output : output ≡ b.output
  same_second : second ≡ b.second

late : {e : Entry} {b : Lent} {n : ℕ} {v : Values} {marks output second : List ℕ} → Returned e b n 0
    → (n ≡ 0) ⊎ Spared e b n v marks output second
    → Demand1 e b (record { refusal = n; line = 0; values = v; marks = marks; output = output; work = zeroed b.work; second = second })
late {e} {b} {n} {v} {marks} {output} {second} r x =
    record {
      returned = r;
      no_other = λ m at s. returned_once s r;
      no_result = λ t h. (spared x h).no-values;
      marks = λ h. (spared x h).same_marks;
      output = λ h. (spared x h).same_output;
      second = λ h. (spared x h).same_second;
      work_kept = λ h i. absurd (both_ways (sym i ∙ (spared x h).clearing));
      work_cleared = λ w h. refl;
    }
  where
    spared : (n ≡ 0) ⊎ Spared e b n v marks output second → n ≢ 0 → Spared e b n v marks output second
    spared (inl z) h = absurd (h z)
    spared (inr y) h = y

-- such a refusal leaves the buffers but the working one
spares : {e : Entry} {b : Lent} {n : ℕ} → clears e n ≡ true → Spared e b n no_values b.marks b.output b.second
spares h = record { clearing = h; no-values = refl; same_marks = refl; same_output = refl; same_second = refl }

-- ---- the checks, one after another

-- a verdict is an early refusal, or what the rows that are left give is returned
abbrev pub Judged : Entry → Lent → List Row → Verdict → Type 0
Judged e b left Accepted = Returned e b (first_met left) 0
Judged e b left (Refused n line) = Early e b n line

-- no number of a file clears the working buffer
file_keeps : (e : Entry) {n line : ℕ} → (0 < n) × (n ≤ 23) × (line ≤ 819) × ((n ≤ 8) ⊎ (19 ≤ n)) × (n ≢ 21) × (n ≢ 22) → clears e n ≡ false
file_keeps e {n} x =
    let ten : n ≢ 10 = λ z. ⊎_elim (λ y. absurd (omega arith)) (λ y. absurd (omega arith)) x.3 in
    let seventeen : n ≢ 17 = λ z. ⊎_elim (λ y. absurd (omega arith)) (λ y. absurd (omega arith)) x.3 in
    chosen (λ (t : Bool). t ≡ false) (is_move e) (neither_of n 25 10 (λ z. absurd (omega (arith, x.1))) ten) (neither_of n 17 22 seventeen x.5)

pub file_judged : (e : Entry) (b : Lent) → Judged e b (rows e b) (read_file b.file).verdict
file_judged e b = go (read_file b.file).verdict refl (file_told b.file)
  where
    go : (v : Verdict) → (read_file b.file).verdict ≡ v → SaysFile b.file v → Judged e b (rows e b) v
    go Accepted h t = of_the_rest t
    go (Refused n line) h t =
        let x = few_lines b.file n line h in
        record {
          returned = of_the_file t;
          some_number = faulty_number t;
          no_clearing = file_keeps e x;
        }

-- the file and the lengths, whatever was asked, and whatever comes after them
pub checked_judged : (e : Entry) → is_move e ≡ false → (b : Lent) (marks output work : Length) (final : List Row) → rows e b ≡ buffer_rows (marks_length b) marks output work ++ final
    → Judged e b final (checked b.file marks output work)
checked_judged e m b marks output work final h = go (checked b.file marks output work) (checked_file b.file marks output work)
  where
    by : (v : Verdict) → (read_file b.file).verdict ≡ v → Judged e b (rows e b) v
    by v a = subst (Judged e b (rows e b)) a (file_judged e b)

    left : {n : ℕ} → (read_file b.file).verdict ≡ Accepted → first_met (buffer_rows (marks_length b) marks output work ++ final) ≡ n → Returned e b n 0
    left a f = subst (λ n. Returned e b n 0) (ap first_met h ∙ f) (by Accepted a)

    go : (v : Verdict) → CheckedAs (read_file b.file).verdict (marks_length b) marks output work v → Judged e b final v
    go v (passed a s f) = left a (f final)
    go v (by_file a) = by v a
    go v (by_length a low high f) = length_early m low high (left a (f final))

not_equal : {n m : ℕ} → eqb n m ≡ false → n ≢ m
not_equal {n} {m} e = eqb-false n m e

-- ---- read, sizes, faulty_pair and write

read_good : (b : Lent) → Demand1 reads b (read_back b (read_file b.file).verdict)
unfolding first_met
read_good b = go (read_file b.file).verdict (file_judged reads b)
  where
    go : (v : Verdict) → Judged reads b [] v → Demand1 reads b (read_back b v)
    go Accepted r = done refl r
    go (Refused n line) x = early x

sizes_good : (b : Lent) → Demand1 sizes b (sizes_back b (read_file b.file).verdict (sizes_of (program_in b)))
unfolding first_met
sizes_good b = go (read_file b.file).verdict (file_judged sizes b)
  where
    go : (v : Verdict) → Judged sizes b [] v → Demand1 sizes b (sizes_back b v (sizes_of (program_in b)))
    go Accepted r = done refl r
    go (Refused n line) x = early x

pair_good : (b : Lent) → Demand1 faulty-pair b (pair_back b (read_file b.file).verdict (read_file b.file).pair)
unfolding first_met
pair_good b = go (read_file b.file).verdict (file_judged faulty-pair b)
  where
    go : (v : Verdict) → Judged faulty-pair b [] v → Demand1 faulty-pair b (pair_back b v (read_file b.file).pair)
    go Accepted r = done refl r
    go (Refused n line) x = early_telling (λ t. absurd (both_ways (sym t))) x

write_good : (b : Lent) → Demand1 write b (write_back b (write_answer b.file b.output) (output_after b.file b.output))
unfolding write_answer output_after first_met
write_good b = go (checked_output b.file b.output) (checked_judged write refl b None (Some (length b.output)) None [] refl)
  where
    go : (v : Verdict) → Judged write b [] v → Demand1 write b (write_back b (answer_by v (program_in b)) (output_by v (program_in b) b.output))
    go Accepted r = done refl r
    go (Refused n line) x = early x

-- ---- analyze, prune, next_violation and next_blocked

marks_judged : (e : Entry) → is_move e ≡ false → (b : Lent) (final : List Row) → rows e b ≡ marks_rows b ++ final
    → Judged e b final (checked_marks b.file b.marks b.work)
marks_judged e m b = checked_judged e m b (Some (length b.marks)) None (Some (length b.work))

-- a working buffer that passes has as many bytes as there are numbers
pub work_zeroed : (file marks work : List ℕ) → work_after file marks work ≡ on_success (checked_marks file marks work) (zeroed work) work
unfolding work_after none_set
work_zeroed file marks work = go (checked_marks file marks work) refl
  where
    go : (v : Verdict) → checked_marks file marks work ≡ v → on_success v (none_set (sizes_of (read_file file).program)) work ≡ on_success v (zeroed work) work
    go Accepted h = ap (λ (n : ℕ). replicate n 0) (sym (passes file (Some (length marks)) None (Some (length work)) h).sized.work_length)
    go (Refused n line) h = refl

analyze_good : (b : Lent)
    → Demand1 analyze b (analyze_back b (analyze_answer b.file b.marks b.work b.limit) (marks_after b.file b.marks b.work b.limit) (work_after b.file b.marks b.work))
unfolding analyze_answer marks_after first_met
analyze_good b = rw (work_zeroed b.file b.marks b.work) (go (checked_marks b.file b.marks b.work) (marks_judged analyze refl b (limit_row (program_in b) b.limit ∷ []) refl))
  where
    p : Program
    p = program_in b

    within : (t : Bool) → Returned analyze b (cond t 22 0) 0
        → Demand1 analyze b (analyze_back b (analyze_by (verdict_of (cond t 22 0)) p) (on_success (verdict_of (cond t 22 0)) (fresh_marks p) b.marks) (zeroed b.work))
    within true r = late r (inr (spares refl))
    within false r = late r (inl refl)

    go : (v : Verdict) → Judged analyze b (limit_row p b.limit ∷ []) v
        → let w = followed_by v (limited p b.limit) in
        Demand1 analyze b (analyze_back b (analyze_by w p) (on_success w (fresh_marks p) b.marks) (on_success v (zeroed b.work) b.work))
    go Accepted r = within (ltb b.limit (analysis p).iterations) r
    go (Refused n line) x = early x

prune_good : (b : Lent) (marks : List ℕ) → Pruned (checked_marks b.file b.marks b.work) (program_in b) b.marks marks
    → Demand1 prune b (prune_back b (checked_marks b.file b.marks b.work) marks (work_after b.file b.marks b.work))
unfolding first_met
prune_good b marks = rw (work_zeroed b.file b.marks b.work) (go (checked_marks b.file b.marks b.work) (marks_judged prune refl b [] refl))
  where
    go : (v : Verdict) → Judged prune b [] v → Pruned v (program_in b) b.marks marks → Demand1 prune b (prune_back b v marks (on_success v (zeroed b.work) b.work))
    go Accepted r k = late r (inl refl)
    go (Refused n line) x k = subst (λ m. Demand1 prune b (prune_back b (Refused n line) m b.work)) (sym k) (early x)

-- what a search in the program's own marks gives back: these numbers where nothing is refused
abbrev sought : Lent → Verdict → Values → List ℕ → Back
sought b Accepted v work = record { refusal = 0; line = 0; values = v; marks = b.marks; output = b.output; work = work; second = b.second }
sought b (Refused n line) v work = record { refusal = n; line = line; values = no_values; marks = b.marks; output = b.output; work = work; second = b.second }

sought_good : (e : Entry) → is_move e ≡ false → (b : Lent) (found : Values) → rows e b ≡ marks_rows b ++ foreign_row (program_in b) b.marks ∷ []
    → Demand1 e b (sought b (checked_own b.file b.marks b.work) found (work_after b.file b.marks b.work))
unfolding first_met
sought_good e m b found h =
    rw (work_zeroed b.file b.marks b.work)
    (go (checked_marks b.file b.marks b.work) (marks_judged e m b (foreign_row (program_in b) b.marks ∷ []) h))
  where
    own : (t : Bool) → Returned e b (cond (not t) 17 0) 0 → Demand1 e b (sought b (verdict_of (cond (not t) 17 0)) found (zeroed b.work))
    own true r = late r (inl refl)
    own false r = late r (inr (spares (rw m)))

    go : (v : Verdict) → Judged e b (foreign_row (program_in b) b.marks ∷ []) v
        → Demand1 e b (sought b (followed_by v (owned (program_in b) b.marks)) found (on_success v (zeroed b.work) b.work))
    go Accepted r = own (same b.marks (fresh_marks (program_in b))) r
    go (Refused n line) x = early x

next_good : (b : Lent) → Demand1 next_violation b (next_back b (next_answer b.file b.marks b.work b.from) (work_after b.file b.marks b.work))
unfolding next_answer
next_good b =
    subst (Demand1 next_violation b) (told (checked_own b.file b.marks b.work) o)
    (sought_good next_violation refl b (finding (next_found (found_of o))) refl)
  where
    o : Option ℕ
    o = first_from b.from (violations (program_in b))

    told : (v : Verdict) (o : Option ℕ) → sought b v (finding (next_found (found_of o))) (work_after b.file b.marks b.work)
        ≡ next_back b (found_by v o) (work_after b.file b.marks b.work)
    told Accepted none = refl
    told Accepted (some i) = refl
    told (Refused n line) o = refl

block_good : (b : Lent) → Demand1 next_blocked b (block_back b (block_answer b.file b.marks b.work b.from) (work_after b.file b.marks b.work))
unfolding block_answer
block_good b =
    subst (Demand1 next_blocked b) (told (checked_own b.file b.marks b.work) o)
    (sought_good next_blocked refl b (blocking (block_found (block_of o)) (block_edge (block_of o))) refl)
  where
    o : Option Block
    o = next_block (program_in b) b.from

    told : (v : Verdict) (o : Option Block) → sought b v (blocking (block_found (block_of o)) (block_edge (block_of o))) (work_after b.file b.marks b.work)
        ≡ block_back b (block_by v o) (work_after b.file b.marks b.work)
    told Accepted none = refl
    told Accepted (some i) = refl
    told (Refused n line) o = refl

-- ---- marks_to_frames and frames_to_marks

not_untrue : (t : Bool) → false ≡ not t → t ≡ true
not_untrue true e = refl
not_untrue false e = e

-- a working buffer that has its length is cleared to zeros
cleared_work : (b : Lent) → false ≡ other_than (marks_length b) (Some (length b.work)) → none_set (sizes_of (program_in b)) ≡ zeroed b.work
unfolding none_set
cleared_work b l = ap (λ (n : ℕ). replicate n 0) (sym (eqb-true (length b.work) (marks_length b) (not_untrue (eqb (length b.work) (marks_length b)) l)))

module _ (way : Way) (e : Entry) (m : is_move e ≡ true) (b : Lent) (given : List ℕ) (h : rows e b ≡ move_rows way given b) where
  -- the verdict by which rows are met, before anything is touched and then
  abbrev sooner : Bool → Bool → Bool → Verdict
  sooner large marks work = verdict_of (cond large 24 (cond marks 9 (cond work 11 0)))

  abbrev later : Bool → Bool → Verdict
  later foreign short = verdict_of (cond foreign 25 (cond short 10 0))

  -- what is given back by these, for a file that is accepted or refused
  abbrev move_by : Verdict → Verdict → Verdict → Back
  move_by v s t =
      let w = followed_by (followed_by v s) t in
      let new = moved way (program_in b) in
      move_back b (written_by w new) (on_success w (at_start new b.output) b.output) (on_success (followed_by v s) (none_set (sizes_of (program_in b))) b.work)

  -- a refusal before anything is touched
  sooner_early : {n : ℕ} → Returned e b n 0 → n ≢ 0 → n ≢ 25 → n ≢ 10 → Early e b n 0
  sooner_early {n} r z a c = record { returned = r; some_number = z; no_clearing = rw m (neither_of n 25 10 a c) }

  moved_good : (large marks work foreign short : Bool) → work ≡ other_than (marks_length b) (Some (length b.work))
      → Returned e b (cond large 24 (cond marks 9 (cond work 11 (cond foreign 25 (cond short 10 0))))) 0
      → Demand1 e b (move_by Accepted (sooner large marks work) (later foreign short))
  moved_good true marks work foreign short l r = early (sooner_early r (not_equal refl) (not_equal refl) (not_equal refl))
  moved_good false true work foreign short l r = early (sooner_early r (not_equal refl) (not_equal refl) (not_equal refl))
  moved_good false false true foreign short l r = early (sooner_early r (not_equal refl) (not_equal refl) (not_equal refl))
  moved_good false false false true short l r = rw (cleared_work b l) (late r (inr (spares (rw m))))
  moved_good false false false false true l r = rw (cleared_work b l) (late r (inr (spares (rw m))))
  moved_good false false false false false l r = rw (cleared_work b l) (late r (inl refl))

  move_good : Demand1 e b (move_back b (move_answer way b.file given b.output b.work) (move_output way b.file given b.output b.work) (move_work way b.file given b.work))
  unfolding move_answer move_output move_work first_met
  move_good = go (read_file b.file).verdict (file_judged e b)
    where
      p : Program
      p = program_in b

      go : (v : Verdict) → Judged e b (rows e b) v → Demand1 e b (move_by v (sooner (too_large p) (other_than (numbers old_sizes) (given_marks way given)) (other_than (marks_length b) (Some (length b.work)))) (later (not (same given (own way p))) (ltb (length b.output) (length (moved way p)))))
      go Accepted r =
          moved_good (too_large p) (other_than (numbers old_sizes) (given_marks way given)) (other_than (marks_length b) (Some (length b.work))) (not (same given (own way p)))
          (ltb (length b.output) (length (moved way p))) refl (subst (λ (l : List Row). Returned e b (first_met l) 0) h r)
      go (Refused n line) x = early x

-- ---- exchange_sizes

room_good : (b : Lent) → Demand1 exchange_sizes b (room_back b (room_answer b.file b.text))
unfolding room_answer room_wanted wanted_exchange exchange_from
room_good b = go (read_file b.file).verdict (file_judged exchange_sizes b)
  where
    p : Program
    p = program_in b

    ls : List Line
    ls = text_lines b.text

    wanted : (t : Bool) → eqb (first_met (exchange_rows p ls)) 0 ≡ t → Returned exchange_sizes b (first_met (exchange_rows p ls)) 0
        → Demand1 exchange_sizes b (room_back b (cond t (room_of (exchange_in ls) p) (room.Refused (first_met (exchange_rows p ls)) 0)))
    wanted true h r = done refl (subst (λ n. Returned exchange_sizes b n 0) (eqb-true _ 0 h) r)
    wanted false h r = early (change_early refl ExchangeText p (ap (λ (t : Bool). cond t (change.Read (change.whole (exchange_in ls))) (change.Refused (first_met (exchange_rows p ls)))) h) r)

    go : (v : Verdict) → Judged exchange_sizes b (exchange_rows p ls) v → Demand1 exchange_sizes b (room_back b (room_by v p b.text))
    go Accepted r = wanted (eqb (first_met (exchange_rows p ls)) 0) refl r
    go (Refused n line) x = early x

-- ---- the repairs

module _ (k : Form) (e : Entry) (m : is_move e ≡ false) (b : Lent) (h : rows e b ≡ repair_rows k b) where
  -- what is left to check after the line or text, and after the first lengths
  abbrev last : List Row
  last = later_rows k (program_in b) b.text (length b.second) (length b.work) ++ foreign_row (program_in b) b.marks ∷ []

  abbrev left : List Row
  left = change_rows k (program_in b) b.text ++ last

  -- whatever routines are answered, if none are on a refusal
  repair_good : (routines : ℕ) → (writeRefusal (repaired_in k b).answer ≢ 0 → routines ≡ 0) → Demand1 e b (repair_back (repaired_in k b) routines)
  unfolding repaired first_met
  repair_good routines =
      go (checked_repair k b.file b.marks b.output b.work)
      (checked_judged e m b (Some (length b.marks)) (Some (length b.output)) (work_first k (length b.work)) left h)
    where
      p : Program
      p = program_in b

      -- what is to be shown of an answer
      Good : After → Type 0
      Good a = (writeRefusal a.answer ≢ 0 → routines ≡ 0) → Demand1 e b (repair_back a routines)

      refuses : {n line : ℕ} → Early e b n line → Good (untouched n line b.marks b.output b.work b.second)
      refuses {n} {line} x z = subst (λ m. Demand1 e b (repair_back (untouched n line b.marks b.output b.work b.second) m)) (sym (z x.some_number)) (early x)

      mended : (c : Change) (q : Program) → Returned e b 0 0 → Good (repaired_to c q b.marks b.output b.work b.second)
      mended (change.step x) q r z = late r (inl refl)
      mended (change.whole x) q r z = late r (inl refl)

      changed : (c : Change) (q : Program) (t : Bool) → Returned e b (cond (not t) 17 0) 0
          → Good (owned_by (verdict_of (cond (not t) 17 0)) c q b.marks b.output b.work b.second)
      changed c q true r z = mended c q r z
      changed c q false r z =
          subst (λ m. Demand1 e b (repair_back (foreign 17 0 b.marks b.output b.work b.second) m)) (sym (z (not_equal refl))) (late r (inr (spares (rw m))))

      measures : (c : Change) (rs : List Row) (v : Verdict) → MeasuredAs rs v → Returned e b (first_met (rs ++ foreign_row p b.marks ∷ [])) 0
          → Good (measured_by v c p b.marks b.output b.work b.second)
      measures c rs v (fitting f) r z =
          changed c (changed_program c p) (same b.marks (fresh_marks p)) (subst (λ n. Returned e b n 0) (f (foreign_row p b.marks ∷ [])) r) z
      measures c rs v (unfit low high f) r z =
          refuses (length_early m low high (subst (λ n. Returned e b n 0) (f (foreign_row p b.marks ∷ [])) r)) z

      wanted : (w : ChangeRead) → wanted_change k p b.text ≡ w → Returned e b (number_then w (first_met last)) 0
          → Good (wanted_by w p b.marks b.output b.work b.second)
      wanted (change.Read c) i r =
          let rs = measured_rows c p (length b.second) (length b.work) in
          measures c rs (verdict_of (first_met rs)) (measured_told c p (length b.second) (length b.work))
          (subst (λ (l : List Row). Returned e b (first_met (l ++ foreign_row p b.marks ∷ [])) 0) (later_told (form_read k p b.text c i) p (length b.second) (length b.work)) r)
      wanted (change.Refused n) i r = refuses (change_early m k p i r)

      go : (v : Verdict) → Judged e b left v → Good (repaired_by k v p b.marks b.text b.output b.work b.second)
      go Accepted r = wanted (wanted_change k p b.text) refl (subst (λ n. Returned e b n 0) (change_told k p b.text last) r)
      go (Refused n line) x = refuses x

  forward_good : (a : Back) → RepairGives k b a → Demand1 e b a
  forward_good a g = subst (Demand1 e b) (sym g) (repair_good 0 (λ x. refl))

  -- the inside-out repair answers no routine on a refusal
  inside_out_good : (a : Back) → InsideOutGives k b a → Demand1 e b a
  inside_out_good a g =
      subst (Demand1 e b) (sym g.0)
      (repair_good a.values.reanalyzed (λ x. none (λ z. x (sym (ap (λ (y : Back). y.refusal) g.0) ∙ z))))
    where
      none : a.refusal ≢ 0 → a.values.reanalyzed ≡ 0
      none x = rw (ne_eqb a.refusal 0 x) at g.1

-- ---- every function

pub gives_demanded : (e : Entry) (b : Lent) (a : Back) → Gives e b a → Demand1 e b a
gives_demanded reads b a g = subst (Demand1 reads b) (sym g) (read_good b)
gives_demanded sizes b a g = subst (Demand1 sizes b) (sym g) (sizes_good b)
gives_demanded faulty-pair b a g = subst (Demand1 faulty-pair b) (sym g) (pair_good b)
gives_demanded write b a g = subst (Demand1 write b) (sym g) (write_good b)
gives_demanded analyze b a g = subst (Demand1 analyze b) (sym g) (analyze_good b)
gives_demanded next_violation b a g = subst (Demand1 next_violation b) (sym g) (next_good b)
gives_demanded next_blocked b a g = subst (Demand1 next_blocked b) (sym g) (block_good b)
gives_demanded prune b a g = subst (Demand1 prune b) (sym g.0) (prune_good b a.marks g.1)
gives_demanded marks_to_frames b a g = subst (Demand1 marks_to_frames b) (sym g) (move_good over marks_to_frames refl b b.marks refl)
gives_demanded frames_to_marks b a g = subst (Demand1 frames_to_marks b) (sym g) (move_good back frames_to_marks refl b b.text refl)
gives_demanded repair_forward b a g = forward_good EditLine repair_forward refl b refl a g
gives_demanded repair_inside_out b a g = inside_out_good EditLine repair_inside_out refl b refl a g
gives_demanded exchange_sizes b a g = subst (Demand1 exchange_sizes b) (sym g) (room_good b)
gives_demanded exchange_forward b a g = forward_good ExchangeText exchange_forward refl b refl a g
gives_demanded exchange_inside_out b a g = inside_out_good ExchangeText exchange_inside_out refl b refl a g

-- ---- a call that is not refused

-- it meets no row, and neither does its file
pub record Unrefused (e : Entry) (b : Lent) : Type 0 where
  pub good_file : (n line : ℕ) → ¬ (FaultyFile b.file n line)
  pub no_row : first_met (rows e b) ≡ 0

pub unrefused : (e : Entry) (b : Lent) (a : Back) → Gives e b a → a.refusal ≡ 0 → Unrefused e b
unrefused e b a g z = go (gives_demanded e b a g).returned z
  where
    go : {n line : ℕ} → Returned e b n line → n ≡ 0 → Unrefused e b
    go (of_the_file f) h = absurd (faulty_number f h)
    go (of_the_rest f) h = record { good_file = f; no_row = h }

pub accepted_file : {e : Entry} {b : Lent} → Unrefused e b → (read_file b.file).verdict ≡ Accepted
accepted_file {e} {b} u = go (read_file b.file).verdict (file_told b.file)
  where
    go : (v : Verdict) → SaysFile b.file v → v ≡ Accepted
    go Accepted t = refl
    go (Refused n line) t = absurd (u.good_file n line t)

-- where a file is good, another function's number is that of its rows
pub number_of_rows : {e : Entry} {b : Lent} → Unrefused e b → (f : Entry) (a : Back) → Gives f b a → a.refusal ≡ first_met (rows f b)
number_of_rows {b = b} u f a g = sym ((gives_demanded f b a g).no_other (first_met (rows f b)) 0 (of_the_rest u.good_file)).0
