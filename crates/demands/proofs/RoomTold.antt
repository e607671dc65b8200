-- What is told of the sizes: those of a file are its program's, and those of an exchange are what it has to be lent.
use mathlib.Core.Path.{◌≡◌, refl, sym, ap, subst, ◌∙◌}
use mathlib.Core.Logic.{◌↔◌, ◌⊎◌, inl, inr, ⊎_elim}
use mathlib.Core.Bool.{Bool, true, false, cond, not}
use mathlib.Core.List.{List, [], ◌∷◌, ◌++◌}
use Prim.Native.Nat.{ℕ, suc, ◌≤◌, ◌<◌}
use native.Mathlib.Omega.{arith}
use lib.Dec.{leb, eqb}
use lib.ListN.{get_or, length}
use borrow.Author.Tests.{leb-false, eqb-true, eq-eqb, le-ltb}
use Rattle.program.specs.Sizes.{output_size}
use Rattle.program.specs.Program.{Program}
use Rattle.program.specs.Chosen.{largest, sizes_of, numbers}
use Rattle.program.specs.declared.sizes.Sizes.{Sizes}
use Rattle.program.specs.WellFormed.{WellFormed}
use Rattle.program.specs.Reading.{Outcome, read_file}
use Rattle.program.specs.Checks.{Row, first_met}
use Rattle.program.specs.Verdicts.{Verdict}
use Rattle.program.specs.Verdicts.{Accepted}
use Rattle.program.proofs.Theorems.{accepted_well_formed, read_again}
use Rattle.program.proofs.ChosenSizes.{largest_at, admitted}
use Rattle.reach.specs.Marks.{fresh_marks}
use Rattle.reach.proofs.ProgramInSizes.{usable}
use Rattle.reach.proofs.ShapeKept.{marks-length}
use Rattle.exchange.specs.Changes.{Exchange, Change, ExchangeText}
use Rattle.exchange.specs.Changing.{exchanged_program, changed_program}
use Rattle.exchange.specs.Lengths.{sizes_after}
use Rattle.exchange_text.specs.ExchangeText.{text_lines, exchange_in, exchange_from, wanted_exchange}
use Rattle.analysis.specs.Answers.{same, foreign_row}
use Rattle.analysis.proofs.AnswersByChecks.{same_self}
use Rattle.rewrite.specs.Room.{room_of, room_wanted, room_answer}
use Rattle.desk.specs.Entries.{sizes, exchange_sizes, Lent, Back, sizes_back, room_back, program_in, Gives}
use Rattle.demands.specs.Lists.{Repair, forward, inside_out, entry}
use Rattle.demands.specs.Demands.{SizesTold, Needed, with_written}
use Rattle.demands.specs.Refusals.{marks_length, later_rows, repair_rows, rows}
use Rattle.demands.proofs.ChangeRefusalsTold.{change_told, OfForm, exchanges, form_read}
use Rattle.demands.proofs.ChangesAccepted.{mended, mended_well_formed, mended_wrote}
use Rattle.demands.proofs.EntriesGive.{repair_gives}
use Rattle.demands.proofs.RefusalsReturned.{Unrefused, unrefused, accepted_file, number_of_rows}

-- ---- of a file

-- a largest number that is not 0 is one of the numbers
pub largest_attained : (ns : List ℕ) → 0 < largest ns → (f : ℕ) × (f < length ns) × (get_or ns f 0 ≡ largest ns)
unfolding largest
largest_attained [] h = absurd (omega arith)
largest_attained (n ∷ ns) h = go (leb (largest ns) n) refl (largest_attained ns)
  where
    go : (t : Bool) → leb (largest ns) n ≡ t → (0 < largest ns → (f : ℕ) × (f < length ns) × (get_or ns f 0 ≡ largest ns))
        → (f : ℕ) × (f < suc (length ns)) × (get_or (n ∷ ns) f 0 ≡ cond t n (largest ns))
    go true e k = (0, omega arith, refl)
    go false e k =
        let x = k (omega (arith, leb-false (largest ns) n e)) in
        (suc x.0, omega (arith, x.1), x.2)

pub sizes_right : (b : Lent) (a : Back) → Gives sizes b a → a.refusal ≡ 0 → SizesTold (program_in b) a.values.room
unfolding numbers
sizes_right b a g z =
    subst (λ (x : Back). SizesTold p x.values.room) (sym (g ∙ ap (λ (v : Verdict). sizes_back b v (sizes_of p)) good))
    (record { routines = refl; states = refl; at_most = λ f h. largest_at p.nodes f; attained = found; marks = refl; limited = (admitted p w).product })
  where
    p : Program
    p = program_in b

    good : (read_file b.file).verdict ≡ Accepted
    good = accepted_file (unrefused sizes b a g z)

    w : WellFormed p
    w = accepted_well_formed b.file good

    found : (f : ℕ) × (f < p.routines) × (get_or p.nodes f 0 ≡ largest p.nodes)
    found =
        let x = largest_attained p.nodes (omega (arith, (usable p w).nodes)) in
        (x.0, omega (arith, x.1, w.complete), x.2)

-- ---- of an exchange

exchange-rows : (r : Repair) (b : Lent) → rows (entry ExchangeText r) b ≡ repair_rows ExchangeText b
exchange-rows forward b = refl
exchange-rows inside_out b = refl

module _ (b : Lent) (u : Unrefused exchange_sizes b) where
  abbrev p : Program
  p = program_in b

  -- the rows after the text
  abbrev last : List Row
  last = later_rows ExchangeText p b.text (length b.second) (length b.work) ++ foreign_row p b.marks ∷ []

  -- what is told
  room_is : room_answer b.file b.text ≡ room_of (exchange_in (text_lines b.text)) p
  unfolding room_answer room_wanted
  room_is = rw (accepted_file u, u.no_row)

  -- what an exchange of this text meets, where its marks and its output have their lengths
  exchange_meets : length b.marks ≡ marks_length b → output_size ≤ length b.output → first_met (repair_rows ExchangeText b) ≡ first_met last
  unfolding first_met wanted_exchange exchange_from
  exchange_meets m o =
      rw (eq-eqb (length b.marks) (marks_length b) m, le-ltb (length b.output) output_size o) (change_told ExchangeText p b.text last ∙ rw u.no_row)

-- the sizes of the changed program
new_sizes : {s : List ℕ} {c : Change} → OfForm ExchangeText s c → (p : Program) → sizes_after (exchange_in (text_lines s)) p ≡ sizes_of (changed_program c p)
unfolding exchanged_program
new_sizes (exchanges e) p = ap (λ (x : Exchange). sizes_after x p) e

-- what is met by the lengths, each as told or not, and then by the marks, own or foreign
abbrev met_by : Bool → Bool → Bool → ℕ
met_by second work own = cond (not second) 9 (cond (not work) 11 (cond (not own) 17 0))

-- no row, or that of the marks
abbrev Passes : ℕ → Type 0
Passes n = (n ≡ 0) ⊎ (n ≡ 17)

lengths_decide : (n m n' m' : ℕ) (own : Bool) → Passes (met_by (eqb n n') (eqb m m') own) ↔ ((n ≡ n') × (m ≡ m'))
lengths_decide n m n' m' own = (there (eqb n n') refl (eqb m m') refl, λ h. rw (eq-eqb n n' h.0, eq-eqb m m' h.1) (back own))
  where
    -- a length's number is neither
    neither : {A : Type 0} (k : ℕ) → 9 ≤ k → k ≤ 11 → Passes k → A
    neither k low high = ⊎_elim (λ e. absurd (omega arith)) (λ e. absurd (omega arith))

    there : (t : Bool) → eqb n n' ≡ t → (u : Bool) → eqb m m' ≡ u → Passes (met_by t u own) → (n ≡ n') × (m ≡ m')
    there true e true h x = (eqb-true n n' e, eqb-true m m' h)
    there true e false h x = neither 11 (omega arith) (omega arith) x
    there false e u h x = neither 9 (omega arith) (omega arith) x

    back : (t : Bool) → Passes (met_by true true t)
    back true = inl refl
    back false = inr refl

module _ (b : Lent) (a : Back) (g : Gives exchange_sizes b a) (z : a.refusal ≡ 0) (o : output_size ≤ length b.output) (r : Repair) (c : Back) (h : Gives (entry ExchangeText r) b c) where
  exchange_number : length b.marks ≡ marks_length b
      → c.refusal ≡ met_by (eqb (length b.second) a.values.room.marks) (eqb (length b.work) a.values.room.work) (same b.marks (fresh_marks (program_in b)))
  unfolding first_met
  exchange_number m =
      let u = unrefused exchange_sizes b a g z in
      let told = g ∙ ap (room_back b) (room_is b u) in
      number_of_rows u (entry ExchangeText r) c h ∙ ap first_met (exchange-rows r b) ∙ exchange_meets b u m o
      ∙ ap (λ (y : Back). met_by (eqb (length b.second) y.values.room.marks) (eqb (length b.work) y.values.room.work) (same b.marks (fresh_marks (program_in b)))) (sym told)

  pub room_exact : length b.marks ≡ marks_length b → ((c.refusal ≡ 0) ⊎ (c.refusal ≡ 17)) ↔ Needed b a
  room_exact m =
      let e = exchange_number m in
      let d = lengths_decide (length b.second) (length b.work) a.values.room.marks a.values.room.work (same b.marks (fresh_marks (program_in b))) in
      (λ k. let y = d.0 (subst Passes e k) in record { second = y.0; work = y.1 }, λ n. subst Passes (sym e) (d.1 (n.second, n.work)))

  -- with the program's own marks, that is enough
  pub room_enough : b.marks ≡ fresh_marks (program_in b) → Needed b a → c.refusal ≡ 0
  room_enough own n =
      let p = program_in b in
      let w = accepted_well_formed b.file (accepted_file (unrefused exchange_sizes b a g z)) in
      let t = ap (λ (l : List ℕ). same l (fresh_marks p)) own ∙ same_self (fresh_marks p) in
      exchange_number (ap length own ∙ marks-length (sizes_of p) (usable p w) p)
      ∙ rw (eq-eqb (length b.second) a.values.room.marks n.second, eq-eqb (length b.work) a.values.room.work n.work, t)

-- what is told of an exchange is told of the file that it writes
pub room_after : (b : Lent) (a : Back) → Gives exchange_sizes b a → a.refusal ≡ 0 → (r : Repair) (c : Back) → Gives (entry ExchangeText r) b c → c.refusal ≡ 0
    → (d : Back) → Gives sizes (with_written b c) d → (a.values.room.nodes ≡ d.values.room.nodes) × (a.values.room.marks ≡ d.values.room.marks)
room_after b a g z r c h y d k =
    let p = program_in b in
    let told = g ∙ ap (room_back b) (room_is b (unrefused exchange_sizes b a g z)) in
    let m = mended ExchangeText b c c.values.reanalyzed y (repair_gives ExchangeText r b c h) in
    let q = changed_program m.the_change p in
    let e = ap read_file (mended_wrote m) ∙ read_again q (mended_well_formed m) in
    let after = k ∙ ap (λ (o : Outcome). sizes_back (with_written b c) o.verdict (sizes_of o.program)) e in
    let same_sizes = new_sizes (form_read ExchangeText p b.text m.the_change m.wanted) p in (
      ap (λ (x : Back). x.values.room.nodes) told ∙ ap (λ (s : Sizes). s.nodes) same_sizes ∙ sym (ap (λ (x : Back). x.values.room.nodes) after),
      ap (λ (x : Back). x.values.room.marks) told ∙ ap numbers same_sizes ∙ sym (ap (λ (x : Back). x.values.room.marks) after),
    )
