-- The numbers of an answer fit the types that they have in C.
use mathlib.Core.Path.{◌≡◌, refl}
use mathlib.Core.Bool.{Bool, true, false, cond}
use mathlib.Core.Option.{Option, some, none}
use mathlib.Core.List.{List}
use Prim.Native.Nat.{ℕ, ◌+◌, ◌-◌, ◌^◌, ◌<◌, ◌≤◌}
use native.Mathlib.Nat.{mul-le-mul}
use native.Mathlib.Omega.{arith}
use lib.Dec.{eqb, leb, ltb}
use lib.ListN.{length}
use borrow.Author.Tests.{leb-true, ltb-true}
use Rattle.program.specs.declared.sizes.Sizes.{Sizes}
use Rattle.program.specs.Sizes.{marks_most}
use Rattle.program.specs.Chosen.{sizes_of, sizes_fit, numbers, Admitted}
use Rattle.program.proofs.ChosenSizes.{admitted}
use Rattle.reach.specs.Sizes.{summaries, enough_iterations}
use Rattle.reach.proofs.ProgramInSizes.{usable, ranged, summaries_few}
use Rattle.program.specs.Program.{Program}
use Rattle.program.specs.WellFormed.{WellFormed}
use Rattle.program.specs.Writing.{written}
use Rattle.program.specs.Reading.{read_file}
use Rattle.base.proofs.Bools.{chosen}
use Rattle.program.specs.Checks.{first_met, verdict_of, checked, followed_by}
use Rattle.program.specs.Verdicts.{Verdict}
use Rattle.program.specs.Verdicts.{Accepted, Refused}
use Rattle.program.specs.Checks.{Length}
use Rattle.std.specs.Prelude.{None, Some}
use Rattle.program.proofs.Theorems.{accepted_well_formed, written_limited, few_lines}
use Rattle.program.proofs.ChecksPassed.{passes, few_checks}
use Rattle.writer.specs.Answers.{answer_by, write_answer}
use Rattle.writer.specs.WriteAnswers.{Written}
use Rattle.reach.specs.Marks.{fresh_marks, violations, first_from}
use Rattle.reach.proofs.TakingsBounded.{iterations_bound}
use Rattle.reach.proofs.MarksShown.{fresh_shows, few_marks}
use Rattle.reach.specs.Violations.{Violation, First, nowhere, at}
use Rattle.reach.proofs.ViolationsExact.{few_violations, next_violation}
use Rattle.analysis.specs.Answers.{limited, analyze_by, analyze_answer, owned, found_of, found_by, next_answer}
use Rattle.analysis.proofs.AnswersByChecks.{by_marks}
use Rattle.analysis.proofs.LimitDecides.{by_limit}
use Rattle.base.specs.Searches.{seek}
use Rattle.blocked.specs.Blocks.{is_blocked, blocked_by, block_from, next_block}
use Rattle.blocked.proofs.RunsCutOff.{edge_small}
use Rattle.block_list.specs.Answers.{block_of, block_by, block_answer}
use Rattle.exchange.specs.Changes.{Exchange, Change, step, whole, ChangeRead, Read, Refused as Denied, Form, ExchangeText}
use Rattle.exchange.specs.Changing.{with_nodes, changed_program}
use Rattle.exchange_text.specs.Wanted.{wanted_change}
use Rattle.exchange.proofs.Theorems.{changed_well_formed}
use Rattle.exchange_text.proofs.Theorems.{wanted_change_applies}
use Rattle.exchange_text.specs.ExchangeText.{text_lines, exchange_rows, exchange_in, exchange_from, wanted_exchange}
use Rattle.exchange.specs.Lengths.{sizes_after, measured_rows, work_first}
use Rattle.repair.specs.Repairs.{After, repaired_to, owned_by, changed_by, measured, measured_by, wanted_by, repaired_by, repaired}
use Rattle.rewrite.specs.Room.{room_of, room_wanted, room_by, room_answer}
use Rattle.rewrite.specs.RoomAnswers as room
use Rattle.saved.specs.Answers.{Way, moved, given_marks, early_rows, late_rows, early_checked, move_checked, written_by, move_answer}
use Rattle.saved.proofs.FramesWritten.{moved_limited}
use Rattle.answers.specs.Parts.{VerdictFits, WriteFits, AnalyzeFits, NextFits, BlockFits, RoomFits}

pub read_fits : (file : List ℕ) → VerdictFits (read_file file).verdict
read_fits file = go (read_file file).verdict refl
  where
    go : (v : Verdict) → (read_file file).verdict ≡ v → VerdictFits v
    go Accepted e = omega arith
    go (Refused n line) e = omega (arith, few_lines file n line e)

-- ---- an answer by the checks: a refusal of these, or what follows for a well-formed program

module _ (file : List ℕ) (marks output work : Length) where
  by_checks : (P : Verdict → Type 0) → (WellFormed (read_file file).program → P Accepted) → ((n line : ℕ) → VerdictFits (Refused n line) → P (Refused n line))
      → P (checked file marks output work)
  by_checks P a r = go (checked file marks output work) refl
    where
      go : (v : Verdict) → checked file marks output work ≡ v → P v
      go Accepted e = a (passes file marks output work e).well_formed
      go (Refused n line) e = r n line (omega (arith, few_checks file marks output work e))

  pub checked_fits : VerdictFits (checked file marks output work)
  checked_fits = by_checks VerdictFits (λ w. omega arith) (λ n line h. h)

written_fits : (p : Program) → WellFormed p → WriteFits (Written (length (written p)))
written_fits p w = (omega arith, omega (arith, written_limited p w))

pub write_fits : (file output : List ℕ) → WriteFits (write_answer file output)
unfolding write_answer
write_fits file output =
    let p = (read_file file).program in
    by_checks file None (Some (length output)) None (λ v. WriteFits (answer_by v p)) (written_fits p) (λ n line h. (h, omega arith))

-- ---- the moves of saved marks

followed_fits : (v : Verdict) (n : ℕ) → VerdictFits v → VerdictFits (followed_by v (verdict_of n))
followed_fits Accepted n h = chosen VerdictFits (eqb n 0) (omega arith) (omega arith)
followed_fits (Refused m line) n h = h

written_by_fits : (v : Verdict) (t : List ℕ) → VerdictFits v → length t < 2 ^ 32 → WriteFits (written_by v t)
written_by_fits Accepted t h k = (omega arith, k)
written_by_fits (Refused n line) t h k = (h, omega arith)

pub move_fits : (way : Way) (file given output work : List ℕ) → WriteFits (move_answer way file given output work)
unfolding move_answer
move_fits way file given output work =
    let p = (read_file file).program in
    written_by_fits (move_checked way file given output work) (moved way p)
    (followed_fits (early_checked way file given work) (first_met (late_rows way p given (length output)))
    (followed_fits (read_file file).verdict (first_met (early_rows p (given_marks way given) (length work))) (read_fits file))) (omega (arith, moved_limited way p))

-- ---- the analysis and the list of violations

iterations_fit : {Z : Sizes} → Admitted Z → enough_iterations Z < 2 ^ 32
unfolding enough_iterations
iterations_fit {Z} a =
    let few : 1 + summaries Z ≤ 4097 = omega (arith, summaries_few a) in
    let h = mul-le-mul {n₁ = numbers Z} {m₁ = 1 + summaries Z} {n₂ = 16384} {m₂ = 4097} a.product few in
    omega arith

module _ (file marks work : List ℕ) where
  abbrev p : Program
  p = (read_file file).program

  pub analyze_fits : (limit : ℕ) → AnalyzeFits (analyze_answer file marks work limit)
  unfolding analyze_answer
  analyze_fits limit =
      by_checks file (Some (length marks)) None (Some (length work)) (λ v. AnalyzeFits (analyze_by (followed_by v (limited p limit)) p))
      (λ w. by_limit p limit (λ v. AnalyzeFits (analyze_by v p)) (λ e. counts w) (λ e. (omega arith, omega arith, omega arith, omega arith)))
      (λ n line h. (h, omega arith, omega arith, omega arith))
    where
      counts : WellFormed p → AnalyzeFits (analyze_by Accepted p)
      counts w =
          let u = usable p w in
          let a = admitted p w in
          let m = few_marks (sizes_of p) u p in
          let f = few_violations (sizes_of p) u p in
          (omega arith, omega (arith, m, a.product), omega (arith, m, f, a.product), omega (arith, iterations_bound (sizes_of p) u p, iterations_fit a))

  pub next_fits : (low : ℕ) → NextFits (next_answer file marks work low)
  unfolding next_answer
  next_fits low =
      by_checks file (Some (length marks)) None (Some (length work)) (λ v. NextFits (found_by (followed_by v (owned p marks)) (first_from low (violations p))))
      (λ w. by_marks p marks (λ v. NextFits (found_by v (first_from low (violations p))))
      (λ t. number w (first_from low (violations p)) (next_violation (sizes_of p) (usable p w) (fresh_shows (sizes_of p) (usable p w) p (ranged p w)) low)) (λ t. (omega arith, omega arith)))
      (λ n line h. (h, omega arith))
    where
      number : WellFormed p → (o : Option ℕ) → First (Violation (sizes_of p) p) low o → NextFits (found_of o)
      number w none (nowhere x) = (omega arith, omega arith)
      number w (some i) (at x h y) = (omega arith, omega (arith, x.inside, (admitted p w).product))

  -- where runs are cut off
  block_there : WellFormed p → (i : ℕ) (t : Bool) → ltb i (numbers (sizes_of p)) ≡ t
      → BlockFits (block_of (cond t (some (record { number = i; edge = blocked_by (sizes_of p) p i })) none))
  block_there w i true e =
      (omega arith, omega (arith, ltb-true i (numbers (sizes_of p)) e, (admitted p w).product), omega (arith, edge_small (sizes_of p) p w.edges_limited i))
  block_there w i false e = (omega arith, omega arith, omega arith)

  pub block_fits : (low : ℕ) → BlockFits (block_answer file marks work low)
  unfolding block_answer block_from
  block_fits low =
      by_checks file (Some (length marks)) None (Some (length work)) (λ v. BlockFits (block_by (followed_by v (owned p marks)) (next_block p low)))
      (λ w. by_marks p marks (λ v. BlockFits (block_by v (next_block p low)))
      (λ t. block_there w (seek (is_blocked (sizes_of p) p (fresh_marks p)) (numbers (sizes_of p) - low) low) (ltb (seek (is_blocked (sizes_of p) p (fresh_marks p)) (numbers (sizes_of p) - low) low) (numbers (sizes_of p))) refl)
      (λ t. (omega arith, omega arith, omega arith)))
      (λ n line h. (h, omega arith, omega arith))

-- ---- a repair

-- the answer whatever the lengths of an exchange's buffers
measured_fits : (c : Change) (p : Program) (marks output work second : List ℕ) → WriteFits (changed_by c p marks output work second).answer
    → WriteFits (measured_by (measured c p work second) c p marks output work second).answer
measured_fits c p marks output work second h = go (eqb n 0)
  where
    n : ℕ
    n = first_met (measured_rows c p (length second) (length work))

    go : (t : Bool) → WriteFits (measured_by (cond t Accepted (Refused n 0)) c p marks output work second).answer
    go true = h
    go false = (omega arith, omega arith)

module _ (k : Form) (file marks text output work second : List ℕ) where
  abbrev Fits : After → Type 0
  Fits a = WriteFits a.answer

  -- a change that is not refused
  changed_fits : (c : Change) (p : Program) → WellFormed (changed_program c p) → Fits (changed_by c p marks output work second)
  changed_fits c p w = by_marks p marks (λ v. Fits (owned_by v c (changed_program c p) marks output work second)) (λ t. own c (changed_program c p) w) (λ t. (omega arith, omega arith))
    where
      own : (c : Change) (p : Program) → WellFormed p → Fits (repaired_to c p marks output work second)
      own (step e) p w = written_fits p w
      own (whole x) p w = written_fits p w

  wanted_fits : (w : ChangeRead) (p : Program) → WellFormed p → wanted_change k p text ≡ w → Fits (wanted_by w p marks output work second)
  wanted_fits (Denied n) p f e = (omega arith, omega arith)
  wanted_fits (Read c) p f e =
      measured_fits c p marks output work second (changed_fits c p (changed_well_formed c p f (wanted_change_applies k p text c e)))

  pub repair_fits : Fits (repaired k file marks text output work second)
  unfolding repaired
  repair_fits =
      let p = (read_file file).program in
      by_checks file (Some (length marks)) (Some (length output)) (work_first k (length work)) (λ v. Fits (repaired_by k v p marks text output work second))
      (λ w. wanted_fits (wanted_change k p text) p w refl) (λ n line h. (h, omega arith))

-- ---- what an exchange needs

-- of an exchange that is not refused
needs_fit : (x : Exchange) (p : Program) → WellFormed p → sizes_fit (with_nodes p x.routine x.nodes) ≡ true → RoomFits (room_of x p)
needs_fit x p w h =
    let old = (admitted p w).product in
    let new = leb-true (numbers (sizes_after x p)) marks_most h in
    (omega arith, omega (arith, new), both (leb (numbers (sizes_of p)) (numbers (sizes_after x p))) old new)
  where
    both : {n m : ℕ} (t : Bool) → n ≤ 16384 → m ≤ 16384 → cond t m n < 2 ^ 32
    both true a b = omega (arith, b)
    both false a b = omega (arith, a)

wanted_room_fits : (p : Program) → WellFormed p → (text : List ℕ) → RoomFits (room_wanted p text)
unfolding room_wanted wanted_exchange exchange_from
wanted_room_fits p w text = go (eqb n 0) refl
  where
    x : Exchange
    x = exchange_in (text_lines text)

    n : ℕ
    n = first_met (exchange_rows p (text_lines text))

    go : (t : Bool) → eqb n 0 ≡ t → RoomFits (cond t (room_of x p) (room.Refused n 0))
    go false h = (omega arith, omega arith, omega arith)
    go true h =
        let e : wanted_exchange p text ≡ Read (whole x) = rw h in
        needs_fit x p w (wanted_change_applies ExchangeText p text (whole x) e).sized

pub room_fits : (file text : List ℕ) → RoomFits (room_answer file text)
unfolding room_answer
room_fits file text = go (read_file file).verdict refl
  where
    go : (v : Verdict) → (read_file file).verdict ≡ v → RoomFits (room_by v (read_file file).program text)
    go Accepted e = wanted_room_fits (read_file file).program (accepted_well_formed file e) text
    go (Refused n line) e = (omega (arith, few_lines file n line e), omega arith, omega arith)
