-- A list of repair calls never drifts from the reference model: one call, and then the whole list.
use mathlib.Core.Path.{◌≡◌, refl, sym, ap, subst, ◌∙◌}
use mathlib.Core.Bool.{Bool, true, false, cond}
use mathlib.Core.List.{List, [], ◌∷◌}
use Prim.Native.Nat.{ℕ}
use native.Mathlib.Omega.{arith}
use lib.Dec.{eqb}
use lib.ListN.{length}
use borrow.Author.Tests.{eqb-true, eq-eqb, ne_eqb}
use Rattle.program.specs.Program.{Program}
use Rattle.program.specs.Chosen.{sizes_of, numbers}
use Rattle.program.specs.WellFormed.{WellFormed}
use Rattle.program.specs.Reading.{Outcome, accepted, read_file}
use Rattle.program.specs.Checks.{first_met, buffer_rows, checked}
use Rattle.program.specs.Writing.{written}
use Rattle.program.specs.Verdicts as verdict
use Rattle.std.specs.Prelude.{None, Some}
use Rattle.program.proofs.Theorems.{accepted_well_formed, accepted_as}
use Rattle.reach.specs.Marks.{fresh_marks}
use Rattle.reach.proofs.ProgramInSizes.{usable}
use Rattle.reach.proofs.ShapeKept.{marks-length}
use Rattle.analysis.specs.Answers.{same}
use Rattle.analysis.proofs.AnswersByChecks.{same_self, own_accepted}
use Rattle.exchange.specs.Changes.{Change, ChangeRead, Form, EditLine, ExchangeText}
use Rattle.exchange.specs.Changes as change
use Rattle.exchange.specs.Changing.{changed_program}
use Rattle.exchange.specs.Lengths.{work_first, measured_rows}
use Rattle.exchange.specs.Wanted.{ChangeApplies}
use Rattle.exchange_text.specs.Wanted.{wanted_change}
use Rattle.exchange.proofs.Theorems.{changed_well_formed, changed_read}
use Rattle.exchange_text.proofs.Theorems.{wanted_change_applies, change_number}
use Rattle.repair.specs.Repairs.{After, untouched, repaired_to, measured_by, wanted_by, repaired_by, repaired, InsideOutNumber}
use Rattle.repair.specs.Desk.{Desk, started}
use Rattle.desk.specs.Entries.{Back, repair_back, repaired_in, Gives}
use Rattle.demands.specs.Book.{book_changed, change_refusal, book_refusal, book_read, unless_refused, book_after, book_program}
use Rattle.demands.specs.Lists.{Repair, forward, inside_out, Call, entry, lent_to, marks_from, after, Gave, Seen, seen, seen_of, foreseen, book_call, book_refuses, book_wanted, book_played, RoutinesBy, BookRoutines, accepted_change, LeavesOthers, BookLeaves}
use Rattle.demands.specs.Demands.{Demand3}
use Rattle.demands.proofs.ChangeRefusalsTold.{OfForm, edits, exchanges, form_read}
use Rattle.demands.proofs.ChangesAccepted.{repaired_wrote}
use Rattle.demands.proofs.EntriesGive.{forward_gives, inside_out_gives, repair_gives}
use Rattle.demands.proofs.BookSorted.{book_well_formed, wanted_sorted, measured_sorted, booked}
use Rattle.demands.proofs.LocalChange.{local_change}

-- the desk has a file that is read as the model's program, and the marks of that program
record Agrees (d : Desk) (b : Program) : Type 0 where
  file : read_file d.file ≡ accepted (book_program b)
  marks : d.marks ≡ fresh_marks (book_program b)
  well_formed : WellFormed (book_program b)

-- they do at the start
agreed : (file : List ℕ) → (read_file file).verdict ≡ verdict.Accepted → Agrees (started file) (read_file file).program
agreed file h =
    let w = accepted_well_formed file h in
    let e = book_well_formed (read_file file).program w in
    record {
      file = accepted_as file h ∙ ap accepted (sym e);
      marks = ap fresh_marks (sym e);
      well_formed = subst WellFormed (sym e) w;
    }

-- ---- one call

-- what is seen of a call and what the model says, and they agree again
record Step (k : Form) (d : Desk) (a : Back) (n : ℕ) (b' : Program) : Type 0 where
  same_seen : seen k a ≡ foreseen n (book_program b')
  again : Agrees (after k d a) b'

-- a refused call leaves the marks where they were
refused_marks : (k : Form) (a : Back) → eqb a.refusal 0 ≡ false → marks_from k a ≡ a.marks
refused_marks EditLine a h = refl
refused_marks ExchangeText a h = rw h

-- an accepted one has those of the changed program, in the lent marks or in the second buffer, and its file
changed_desk : {k : Form} {s : List ℕ} {c : Change} → OfForm k s c → (d : Desk) (q : Program) (output work second : List ℕ) (routines : ℕ)
    → let a = repair_back (repaired_to c q d.marks output work second) routines in
    (seen k a ≡ foreseen 0 q) × (after k d a ≡ record { file = written q; marks = fresh_marks q })
changed_desk (edits {e = e}) d q output work second routines =
    let w = repaired_wrote (change.step e) q d.marks output work second routines in
    (λ i. record { refused = 0; marks = fresh_marks q; size = length (written q); wrote = w i }, λ i. record { file = w i; marks = fresh_marks q })
changed_desk (exchanges {x = x} e) d q output work second routines =
    let w = repaired_wrote (change.whole x) q d.marks output work second routines in
    (λ i. record { refused = 0; marks = fresh_marks q; size = length (written q); wrote = w i }, λ i. record { file = w i; marks = fresh_marks q })

module _ (d : Desk) (b : Program) (g : Agrees d b) (routines : ℕ) (k : Form) (text output work second : List ℕ) where
  abbrev p : Program
  p = book_program b

  abbrev Answers : After → ℕ → Program → Type 0
  Answers a = Step k d (repair_back a routines)

  -- a refusal before 17 leaves both as they were
  stays : (n line : ℕ) → eqb n 0 ≡ false → Answers (untouched n line d.marks output work second) n b
  stays n line h =
      let m = refused_marks k (repair_back (untouched n line d.marks output work second) routines) h ∙ g.marks in
      record {
        same_seen = rw (h, m);
        again = record { file = rw h g.file; marks = m; well_formed = g.well_formed };
      }

  -- an accepted call leaves the changed program's marks and file
  goes : (c : Change) → OfForm k text c → ChangeApplies c p → Answers (repaired_to c (changed_program c p) d.marks output work second) 0 (book_changed c b)
  goes c i h =
      let q = changed_program c p in
      let x : book_program (book_changed c b) ≡ q = booked b c in
      let e = changed_desk i d q output work second routines in
      record {
        same_seen = e.0 ∙ ap (foreseen 0) (sym x);
        again =
            subst (λ (y : Desk). Agrees y (book_changed c b)) (sym e.1)
            (record { file = rw x (changed_read c p g.well_formed h); marks = ap fresh_marks (sym x); well_formed = rw x (changed_well_formed c p g.well_formed h) });
      }

  -- the lengths that an exchange asks for, and then the marks, which are the program's own
  measures : (c : Change) → wanted_change k p text ≡ change.Read c → (n : ℕ) (t : Bool) → eqb n 0 ≡ t
      → Answers (measured_by (cond t verdict.Accepted (verdict.Refused n 0)) c p d.marks output work second) n (cond t (book_changed c b) b)
  measures c h n true e =
      let t = ap (λ (l : List ℕ). same l (fresh_marks p)) g.marks ∙ same_self (fresh_marks p) in
      rw (eqb-true n 0 e, ← own_accepted p d.marks t) (goes c (form_read k p text c h) (wanted_change_applies k p text c h))
  measures c h n false e = stays n 0 e

  wanted : (w : ChangeRead) → wanted_change k p text ≡ w
      → let n = change_refusal w b (length work) (length second) in
      Answers (wanted_by w p d.marks output work second) n (unless_refused n (book_read w b) b)
  wanted (change.Read c) h =
      let n = first_met (measured_rows c b (length second) (length work)) in
      rw (measured_sorted c b (length second) (length work)) (measures c h n (eqb n 0) refl)
  wanted (change.Refused n) h =
      let e = ne_eqb n 0 (λ z. absurd (omega (arith, (change_number k p text n h).0))) in
      rw e (stays n 0 e)

one_call : (d : Desk) (b : Program) → Agrees d b → (routines : ℕ) (c : Call)
    → Step c.form d (repair_back (repaired_in c.form (lent_to d c)) routines) (book_refuses b c) (book_call b c)
unfolding repaired checked book_refusal book_after
one_call d b g routines c = rw (g.file, eq-eqb (length d.marks) (numbers (sizes_of p)) m) (go lengths (eqb lengths 0) refl (book_wanted b c) (wanted_sorted c.form b c.text))
  where
    p : Program
    p = book_program b

    m : length d.marks ≡ numbers (sizes_of p)
    m = ap length g.marks ∙ marks-length (sizes_of p) (usable p g.well_formed) p

    -- what the lengths meet that are judged before the line or text
    lengths : ℕ
    lengths = first_met (buffer_rows (numbers (sizes_of b)) None (Some (length c.output)) (work_first c.form (length c.work)))

    go : (n : ℕ) (t : Bool) → eqb n 0 ≡ t → (w : ChangeRead) → wanted_change c.form p c.text ≡ w
        → let r = cond t (change_refusal w b (length c.work) (length c.second)) n in
        Step c.form d (repair_back (repaired_by c.form (cond t verdict.Accepted (verdict.Refused n 0)) p d.marks c.text c.output c.work c.second) routines)
        r (unless_refused r (book_read w b) b)
    go n true e w h = rw h (wanted d b g routines c.form c.text c.output c.work c.second w h)
    go n false e w h = rw e (stays d b g routines c.form c.text c.output c.work c.second n 0 e)

-- ---- one call, by what its function promises

module _ (d : Desk) (b : Program) (g : Agrees d b) (c : Call) (a : Back) (x : Gives (entry c.form c.repair) (lent_to d c) a) where
  step : Step c.form d a (book_refuses b c) (book_call b c)
  step =
      subst (λ (y : Back). Step c.form d y (book_refuses b c) (book_call b c)) (sym (repair_gives c.form c.repair (lent_to d c) a x)) (one_call d b g a.values.reanalyzed c)

  -- the routines by the file's program are those by the model's
  by_model : InsideOutNumber (eqb a.refusal 0) (wanted_change c.form (read_file d.file).program c.text) (read_file d.file).program a.values.reanalyzed
      → InsideOutNumber (eqb (book_refuses b c) 0) (book_wanted b c) (book_program b) a.values.reanalyzed
  by_model y =
      let n = a.values.reanalyzed in
      let z = subst (λ (t : ℕ). InsideOutNumber (eqb t 0) (wanted_change c.form (read_file d.file).program c.text) (read_file d.file).program n) (ap (λ (s : Seen). s.refused) step.same_seen) y in
      let w = subst (λ (o : Outcome). InsideOutNumber (eqb (book_refuses b c) 0) (wanted_change c.form o.program c.text) o.program n) g.file z in
      subst (λ (e : ChangeRead). InsideOutNumber (eqb (book_refuses b c) 0) e (book_program b) n) (wanted_sorted c.form b c.text) w

  routines : RoutinesBy c.repair (book_refuses b c) (book_wanted b c) b a.values.reanalyzed
  routines = go c.repair x
    where
      go : (r : Repair) → Gives (entry c.form r) (lent_to d c) a → RoutinesBy r (book_refuses b c) (book_wanted b c) b a.values.reanalyzed
      go forward y = ap (λ (z : Back). z.values.reanalyzed) (forward_gives c.form (lent_to d c) a y)
      go inside_out y = by_model (inside_out_gives c.form (lent_to d c) a y).1

-- ---- the whole list

never_drifts : (cs : List Call) (gs : List Back) (d : Desk) (b : Program) → Agrees d b → Gave cs gs d → seen_of cs gs ≡ book_played cs b
unfolding Gave seen_of book_played
never_drifts [] [] d b g x = refl
never_drifts [] (a ∷ gs) d b g x = absurd x
never_drifts (c ∷ cs) [] d b g x = absurd x
never_drifts (c ∷ cs) (a ∷ gs) d b g x =
    let s = step d b g c a x.0 in
    λ i. s.same_seen i ∷ never_drifts cs gs (after c.form d a) (book_call b c) s.again x.1 i

routines_right : (cs : List Call) (gs : List Back) (d : Desk) (b : Program) → Agrees d b → Gave cs gs d → BookRoutines cs gs b
unfolding Gave BookRoutines
routines_right [] [] d b g x = tt
routines_right [] (a ∷ gs) d b g x = x
routines_right (c ∷ cs) [] d b g x = x
routines_right (c ∷ cs) (a ∷ gs) d b g x =
    (routines d b g c a x.0, routines_right cs gs (after c.form d a) (book_call b c) (step d b g c a x.0).again x.1)

-- ---- what changes leave alone

one_leaves : (b : Program) (c : Call) → LeavesOthers (accepted_change (book_refuses b c) (book_wanted b c)) (book_program b) (book_program (book_call b c))
unfolding book_after
one_leaves b c = go (eqb (book_refuses b c) 0) (book_wanted b c) (wanted_sorted c.form b c.text)
  where
    go : (t : Bool) (w : ChangeRead) → wanted_change c.form (book_program b) c.text ≡ w
        → LeavesOthers (cond t w (change.Refused (book_refuses b c))) (book_program b) (book_program (cond t (book_read w b) b))
    go false w h = tt
    go true (change.Refused n) h = tt
    go true (change.Read e) h =
        let k = booked b e in
        let a = wanted_change_applies c.form (book_program b) c.text e h in
        subst (λ (q : Program). LeavesOthers (change.Read e) (book_program b) q) (sym k) (λ x g n r q ne. local_change e (book_program b) a x ne)

leaves_others : (cs : List Call) (b : Program) → BookLeaves cs b
unfolding BookLeaves
leaves_others [] b = tt
leaves_others (c ∷ cs) b = (one_leaves b c, leaves_others cs (book_call b c))

-- ---- demand 3

pub list_demanded : (file : List ℕ) → (read_file file).verdict ≡ verdict.Accepted → (cs : List Call) (gs : List Back) → Gave cs gs (started file) → Demand3 file cs gs
list_demanded file h cs gs x =
    let p = (read_file file).program in
    let g = agreed file h in
    record {
      seen = never_drifts cs gs (started file) p g x;
      reanalyzed = routines_right cs gs (started file) p g x;
      others = leaves_others cs p;
    }
