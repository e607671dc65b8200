-- Saved marks: what a move accepts and writes, and what comes of moving there and back.
use mathlib.Core.Path.{◌≡◌, refl, sym, ap, subst, ◌∙◌}
use mathlib.Core.Logic.{◌↔◌, ◌≢◌, ◌⊎◌, inl, inr, ⊎_elim}
use mathlib.Core.Bool.{Bool, true, false, cond, not}
use mathlib.Core.List.{List}
use Prim.Native.Nat.{ℕ, ◌≤◌, ◌<◌}
use native.Mathlib.Omega.{arith}
use lib.Dec.{ltb}
use lib.ListN.{length, take, drop}
use lib.Seq.{take-append_seam}
use borrow.Author.Tests.{eq-eqb, le-ltb, lt-ltb, ltb-true}
use Rattle.program.specs.Program.{Program}
use Rattle.base.proofs.Bools.{either, or_left, or_right}
use Rattle.program.specs.Chosen.{largest, numbers}
use Rattle.program.proofs.ChosenSizes.{largest_at}
use Rattle.program.specs.WellFormed.{WellFormed}
use Rattle.program.specs.Reading.{read_file}
use Rattle.program.specs.Checks.{first_met, verdict_of, followed_by, other_than}
use Rattle.program.specs.Verdicts.{Verdict}
use Rattle.program.specs.Verdicts.{Accepted, Refused}
use Rattle.std.specs.Prelude.{Some}
use Rattle.program.proofs.Theorems.{accepted_well_formed, few_lines}
use Rattle.reach.specs.Runs.{Occurs}
use Rattle.reach.specs.Marks.{Shows}
use Rattle.reach.proofs.MarksShown.{fresh_shows, one_list}
use Rattle.analysis.specs.Answers.{same, on_success}
use Rattle.analysis.proofs.AnswersByChecks.{same_self, same_equal}
use Rattle.writer.specs.Answers.{refusal as writeRefusal, written_length}
use Rattle.saved.specs.Saved.{old_sizes, too_large, old_marks, saved_text}
use Rattle.saved.specs.Rules.{Saves}
use Rattle.saved.specs.Answers.{Way, over, back, own, moved, given_marks, early_rows, late_rows, move_checked, written_by, at_start, move_answer, move_output}
use Rattle.saved.proofs.OldSizes.{old_sized, old_numbers}
use Rattle.saved.proofs.FramesByRules.{by_rules}
use Rattle.saved.proofs.FramesWritten.{old_long}
use Rattle.desk.specs.Entries.{marks_to_frames, frames_to_marks, Lent, Back, program_in, MoveGives, Gives}
use Rattle.demands.specs.Refusals.{marks_length}
use Rattle.demands.specs.Lists.{wrote}
use Rattle.demands.specs.Demands.{TooLarge, by_nodes, by_states, by_transitions, Reaches25, MovedOver, MovedBack}
use Rattle.demands.proofs.RoomTold.{largest_attained}

-- ---- which programs are too large

pub large_exactly : (p : Program) → (too_large p ≡ true) ↔ TooLarge p
large_exactly p = (to, from)
  where
    nodes : 16 < largest p.nodes → TooLarge p
    nodes h = let x = largest_attained p.nodes (omega arith) in by_nodes x.0 (omega (arith, x.2))

    to : too_large p ≡ true → TooLarge p
    to h =
        either (ltb 16 (largest p.nodes)) _ h (λ n. nodes (ltb-true 16 (largest p.nodes) n))
        (λ k. either (ltb 8 p.automaton.states) _ k (λ q. by_states (ltb-true 8 p.automaton.states q)) (λ t. by_transitions (ltb-true 256 (length p.automaton.transitions) t)))

    from : TooLarge p → too_large p ≡ true
    from (by_nodes f h) = or_left (ltb 16 (largest p.nodes)) _ (lt-ltb 16 (largest p.nodes) (omega (arith, largest_at p.nodes f)))
    from (by_states h) = or_right (ltb 16 (largest p.nodes)) _ (or_left (ltb 8 p.automaton.states) _ (lt-ltb 8 p.automaton.states h))
    from (by_transitions h) = or_right (ltb 16 (largest p.nodes)) _ (or_right (ltb 8 p.automaton.states) _ (lt-ltb 256 (length p.automaton.transitions) h))

-- ---- a move by its rows

-- which rows are met, before anything is touched and then
abbrev early : Bool → Bool → Bool → ℕ
early large marks work = cond large 24 (cond marks 9 (cond work 11 0))

abbrev late : Bool → Bool → ℕ
late foreign short = cond foreign 25 (cond short 10 0)

-- the number of an answer by these, for a file that is accepted or refused
abbrev number_of : Verdict → ℕ → ℕ → List ℕ → ℕ
number_of v m n t = writeRefusal (written_by (followed_by (followed_by v (verdict_of m)) (verdict_of n)) t)

-- one of the numbers from 25 on
abbrev From25 : ℕ → Type 0
From25 n = (n ≡ 25) ⊎ ((n ≡ 10) ⊎ (n ≡ 0))

neither : {A : Type 0} {n : ℕ} → n ≢ 25 → n ≢ 10 → n ≢ 0 → From25 n → A
neither a b c (inl e) = absurd (a e)
neither a b c (inr (inl e)) = absurd (b e)
neither a b c (inr (inr e)) = absurd (c e)

-- a call whose number is such has passed the early checks
passed : (file : List ℕ) (v : Verdict) → (read_file file).verdict ≡ v → (large marks work : Bool) (n : ℕ) (t : List ℕ) → From25 (number_of v (early large marks work) n t)
    → (v ≡ Accepted) × (large ≡ false) × (marks ≡ false) × (work ≡ false)
passed file Accepted e true marks work n t h = neither (λ z. absurd (omega arith)) (λ z. absurd (omega arith)) (λ z. absurd (omega arith)) h
passed file Accepted e false true work n t h = neither (λ z. absurd (omega arith)) (λ z. absurd (omega arith)) (λ z. absurd (omega arith)) h
passed file Accepted e false false true n t h = neither (λ z. absurd (omega arith)) (λ z. absurd (omega arith)) (λ z. absurd (omega arith)) h
passed file Accepted e false false false n t h = (refl, refl, refl, refl)
passed file (Refused m line) e large marks work n t h =
    let x = few_lines file m line e in
    neither (λ z. absurd (omega (arith, x.1))) (λ z. ⊎_elim (λ y. absurd (omega arith)) (λ y. absurd (omega arith)) x.3) (λ z. absurd (omega (arith, x.0))) h

-- ---- a move by what is given

module _ (way : Way) (given : List ℕ) (b : Lent) (a : Back) (g : MoveGives way given b a) where
  abbrev p : Program
  p = program_in b

  abbrev foreign : Bool
  foreign = not (same given (own way p))

  abbrev short : Bool
  short = ltb (length b.output) (length (moved way p))

  record Reached : Type 0 where
    accepted : (read_file b.file).verdict ≡ Accepted
    well_formed : WellFormed p
    small : too_large p ≡ false
    verdict : move_checked way b.file given b.output b.work ≡ verdict_of (late foreign short)

  number_is : a.refusal ≡ number_of (read_file b.file).verdict (first_met (early_rows p (given_marks way given) (length b.work))) (first_met (late_rows way p given (length b.output))) (moved way p)
  unfolding move_answer
  number_is = ap (λ (x : Back). x.refusal) g

  reached : From25 a.refusal → Reached
  unfolding first_met
  reached h =
      let x = passed b.file (read_file b.file).verdict refl (too_large p) (other_than (numbers old_sizes) (given_marks way given)) (other_than (marks_length b) (Some (length b.work))) (late foreign short) (moved way p) (subst From25 number_is h) in
      record { accepted = x.0; well_formed = accepted_well_formed b.file x.0; small = x.1; verdict = rw (x.0, x.1, x.2, x.3) refl }

  own_same : given ≡ own way p → same given (own way p) ≡ true
  own_same e = subst (λ (l : List ℕ). same l (own way p) ≡ true) (sym e) (same_self (own way p))

  -- the number by 25 and 10
  late_number : (f s : Bool) (t : List ℕ) → writeRefusal (written_by (verdict_of (late f s)) t) ≡ late f s
  late_number true s t = refl
  late_number false true t = refl
  late_number false false t = refl

  reached_number : Reached → a.refusal ≡ late foreign short
  unfolding move_answer
  reached_number r = ap (λ (x : Back). x.refusal) g ∙ ap (λ (v : Verdict). writeRefusal (written_by v (moved way p))) r.verdict ∙ late_number foreign short (moved way p)

  -- 25 exactly for what is not the program's own
  own_given : Reached → (a.refusal ≢ 25) ↔ (given ≡ own way p)
  own_given r = (λ h. go (same given (own way p)) refl (λ e. h (reached_number r ∙ e)), λ e z. other (sym (reached_number r) ∙ z) e)
    where
      go : (t : Bool) → same given (own way p) ≡ t → (late (not t) short ≡ 25 → ⊥) → given ≡ own way p
      go true e h = same_equal given (own way p) e
      go false e h = absurd (h refl)

      not_25 : (s : Bool) → ◌≡◌ {A = ℕ} (cond s 10 0) 25 → ⊥
      not_25 true z = absurd (omega arith)
      not_25 false z = absurd (omega arith)

      other : late foreign short ≡ 25 → given ≡ own way p → ⊥
      other z e = not_25 short (rw (own_same e) at z)

  -- what is written
  written_moved : a.refusal ≡ 0 → wrote a ≡ moved way p
  unfolding move_answer move_output
  written_moved z =
      let r = reached (inr (inr z)) in
      let v = r.verdict ∙ ap verdict_of (sym (reached_number r) ∙ z) in
      let t = moved way p in
      ap wrote g ∙ ap (λ (v : Verdict). take (written_length (written_by v t)) (on_success v (at_start t b.output) b.output)) v ∙ take-append_seam t (drop (length t) b.output)

  -- what is accepted
  accepted : (read_file b.file).verdict ≡ Accepted → too_large p ≡ false → other_than (numbers old_sizes) (given_marks way given) ≡ false → length b.work ≡ marks_length b → given ≡ own way p
      → length (moved way p) ≤ length b.output → a.refusal ≡ 0
  unfolding first_met
  accepted v l m w e o = number_is ∙ rw (v, l, m, eq-eqb (length b.work) (marks_length b) w, own_same e, le-ltb (length b.output) (length (moved way p)) o) refl

-- ---- both ways

abbrev OwnMarks : Program → List ℕ → Type 0
OwnMarks p l = Shows old_sizes (Occurs p) l

module _ {p : Program} (w : WellFormed p) (l : too_large p ≡ false) where
  own_shows : OwnMarks p (old_marks p)
  own_shows = let s = old_sized p w l in fresh_shows old_sizes s.usable p s.ranged

  marks_own : (m : List ℕ) → (m ≡ old_marks p) ↔ OwnMarks p m
  marks_own m = (λ e. subst (OwnMarks p) (sym e) own_shows, λ s. one_list old_sizes (old_sized p w l).usable s own_shows)

  text_own : (t : List ℕ) → (t ≡ saved_text p) ↔ Saves p t
  text_own t = let x = by_rules p w l t in (x.1, x.0)

both : {A B C : Type 0} → A ↔ B → B ↔ C → A ↔ C
both x y = (λ a. y.0 (x.0 a), λ c. x.1 (y.1 c))

pub over_moved : (b : Lent) (a : Back) → Gives marks_to_frames b a → Reaches25 a → MovedOver b a
over_moved b a g h =
    let r = reached over b.marks b a g h in
    record {
      given = both (own_given over b.marks b a g r) (marks_own r.well_formed r.small b.marks);
      written = λ z. (text_own r.well_formed r.small (wrote a)).0 (written_moved over b.marks b a g z);
    }

pub back_moved : (b : Lent) (a : Back) → Gives frames_to_marks b a → Reaches25 a → MovedBack b a
back_moved b a g h =
    let r = reached back b.text b a g h in
    record {
      given = both (own_given back b.text b a g r) (text_own r.well_formed r.small b.text);
      written = λ z. (marks_own r.well_formed r.small (wrote a)).0 (written_moved back b.text b a g z);
    }

-- ---- there and back

-- what an accepted call was given
given_own : (way : Way) (given : List ℕ) (b : Lent) (a : Back) (g : MoveGives way given b a) → a.refusal ≡ 0 → given ≡ own way (program_in b)
given_own way given b a g z = (own_given way given b a g (reached way given b a g (inr (inr z)))).0 (λ e. absurd (omega arith))

-- the other move is of the same program
same_program : (b c : Lent) → c.file ≡ b.file → program_in b ≡ program_in c
same_program b c f = ap (λ (l : List ℕ). (read_file l).program) (sym f)

pub over_and_back : (b : Lent) (a : Back) → Gives marks_to_frames b a → a.refusal ≡ 0 → (c : Lent) (d : Back) → Gives frames_to_marks c d → c.file ≡ b.file
    → c.text ≡ wrote a → length c.work ≡ marks_length c → 16384 ≤ length c.output → (d.refusal ≡ 0) × (wrote d ≡ b.marks)
over_and_back b a g z c d k f t w o =
    let r = reached over b.marks b a g (inr (inr z)) in
    let e = same_program b c f in
    let n = accepted back c.text c d k (ap (λ (l : List ℕ). (read_file l).verdict) f ∙ r.accepted) (subst (λ (p : Program). too_large p ≡ false) e r.small) refl w
    (t ∙ written_moved over b.marks b a g z ∙ ap saved_text e) (omega (arith, old_long (program_in c))) in
    (n, written_moved back c.text c d k n ∙ sym (given_own over b.marks b a g z ∙ ap old_marks e))

pub back_and_over : (b : Lent) (a : Back) → Gives frames_to_marks b a → a.refusal ≡ 0 → (c : Lent) (d : Back) → Gives marks_to_frames c d → c.file ≡ b.file
    → c.marks ≡ wrote a → length c.work ≡ marks_length c → length b.text ≤ length c.output → (d.refusal ≡ 0) × (wrote d ≡ b.text)
back_and_over b a g z c d k f t w o =
    let r = reached back b.text b a g (inr (inr z)) in
    let e = same_program b c f in
    let m = t ∙ written_moved back b.text b a g z in
    let long : length c.marks ≡ numbers old_sizes = ap length m ∙ old_long (program_in b) ∙ sym old_numbers in
    let own-text = given_own back b.text b a g z ∙ ap saved_text e in
    let n = accepted over c.marks c d k (ap (λ (l : List ℕ). (read_file l).verdict) f ∙ r.accepted) (subst (λ (p : Program). too_large p ≡ false) e r.small)
    (rw (eq-eqb (length c.marks) (numbers old_sizes) long) refl) w (m ∙ ap old_marks e) (omega (arith, ap length own-text, o)) in
    (n, written_moved over c.marks c d k n ∙ sym own-text)

-- ---- one text

pub text_once : (b c : Lent) (a d : Back) → Gives frames_to_marks b a → Gives frames_to_marks c d → program_in b ≡ program_in c → a.refusal ≡ 0 → d.refusal ≡ 0 → b.text ≡ c.text
text_once b c a d g h e z y = given_own back b.text b a g z ∙ ap saved_text e ∙ sym (given_own back c.text c d h y)
