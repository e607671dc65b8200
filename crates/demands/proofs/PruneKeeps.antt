-- The keeping: which marks `prune` leaves, and that a forward drop leaves what the keeping does.
use mathlib.Core.Path.{◌≡◌, refl, sym, ap, subst, ◌∙◌}
use mathlib.Core.List.{List}
use Prim.Native.Nat.{ℕ}
use native.Mathlib.Omega.{arith}
use lib.ListN.{length}
use borrow.Author.Tests.{eq-eqb}
use Rattle.program.specs.declared.sizes.Sizes.{Sizes}
use Rattle.program.specs.Chosen.{sizes_of, numbers}
use Rattle.program.specs.Program.{Program}
use Rattle.program.specs.WellFormed.{WellFormed}
use Rattle.program.specs.Writing.{written}
use Rattle.program.specs.Reading.{Outcome, accepted, read_file, refusal}
use Rattle.program.specs.Checks.{first_met, checked}
use Rattle.program.specs.Verdicts.{Verdict}
use Rattle.program.specs.Verdicts.{Accepted, Refused}
use Rattle.std.specs.Prelude.{None, Some}
use Rattle.program.proofs.Theorems.{read_again}
use Rattle.program.proofs.ChecksPassed.{few_checks}
use Rattle.reach.specs.Marks.{Shows, fresh_at, fresh_marks}
use Rattle.reach.specs.Ranged.{Ranged}
use Rattle.reach.proofs.ProgramInSizes.{usable, ranged}
use Rattle.reach.proofs.ShapeKept.{marks-length}
use Rattle.analysis.specs.Answers.{checked_marks}
use Rattle.prune.specs.Pruning.{Kept, Pruned}
use Rattle.prune.proofs.Theorems.{kept_fresh}
use Rattle.edit.specs.Editing.{edited_program}
use Rattle.edit_line.specs.EditLines.{wanted_edit}
use Rattle.edit.specs.declared.Step.{Step}
use Rattle.edit.specs.declared.Edit.TheVariants.{Drop}
use Rattle.edit.specs.EditReads as read
use Rattle.exchange.specs.Changes.{Change, step, EditLine}
use Rattle.exchange.specs.Changes as change
use Rattle.exchange.specs.Changing.{changed_program}
use Rattle.exchange_text.specs.Wanted.{of_edit}
use Rattle.forward.proofs.EditedSteps.{drop_within, drop_initial}
use Rattle.forward.proofs.ChangedMarks.{edited_sizes}
use Rattle.repair.specs.Repairs.{repaired_to}
use Rattle.desk.specs.Entries.{prune, repair_forward, Lent, Back, program_in, Gives}
use Rattle.demands.specs.Demands.{pruning_of}
use Rattle.demands.specs.Lists.{wrote}
use Rattle.demands.proofs.ChangesAccepted.{Mended, mended, mended_well_formed, mended_wrote}

-- ---- which marks are left

pub pruned : (b : Lent) (a : Back) → Gives prune b a → a.refusal ≡ 0 → Shows (sizes_of (program_in b)) (Kept (sizes_of (program_in b)) (program_in b) b.marks) a.marks
pruned b a g z =
    go (checked_marks b.file b.marks b.work) refl g.1 (sym (ap (λ (x : Back). x.refusal) g.0) ∙ z)
  where
    go : (v : Verdict) → checked_marks b.file b.marks b.work ≡ v → Pruned v (program_in b) b.marks a.marks → refusal v ≡ 0
        → Shows (sizes_of (program_in b)) (Kept (sizes_of (program_in b)) (program_in b) b.marks) a.marks
    go Accepted h k y = k
    go (Refused n line) h k y = absurd (omega (arith, few_checks b.file (Some (length b.marks)) None (Some (length b.work)) h))

-- ---- a forward drop is the keeping on the old marks

module _ (b : Lent) (a k : Back) (s : Step) (g : Gives repair_forward b a) (z : a.refusal ≡ 0) (w : wanted_edit (program_in b) b.text ≡ read.Read (Drop s))
    (h : Gives prune (pruning_of b a) k) where
  m : Mended EditLine b a 0
  m = mended EditLine b a 0 z g

  -- the change is this drop
  is_drop : m.the_change ≡ step (Drop s)
  is_drop = let e : change.Read m.the_change ≡ change.Read (step (Drop s)) = sym m.wanted ∙ ap of_edit w in cc

  abbrev p' : Program
  p' = edited_program (Drop s) (program_in b)

  is_changed : changed_program m.the_change (program_in b) ≡ p'
  is_changed = ap (λ (c : Change). changed_program c (program_in b)) is_drop

  w' : WellFormed p'
  w' = subst WellFormed is_changed (mended_well_formed m)

  -- what was written is read as the edited program
  is_read : read_file (wrote a) ≡ accepted p'
  is_read = ap read_file (mended_wrote m ∙ ap written is_changed) ∙ read_again p' w'

  -- a drop does not change the sizes
  same_sizes : sizes_of (program_in b) ≡ sizes_of p'
  same_sizes = edited_sizes (Drop s) (program_in b) refl

  is_checked : checked_marks (wrote a) b.marks b.work ≡ Accepted
  unfolding checked first_met
  is_checked =
      let size = numbers (sizes_of (program_in b)) in
      let l : length b.marks ≡ size = ap length m.own ∙ marks-length (sizes_of (program_in b)) (usable (program_in b) m.well_formed) (program_in b) in
      let same : numbers (sizes_of p') ≡ size = sym (ap numbers same_sizes) in
      rw (is_read, l, m.work_length, same, eq-eqb size size refl) refl

  pub drop_kept : (k.refusal ≡ 0) × (k.marks ≡ a.marks)
  drop_kept = (
    ap (λ (x : Back). x.refusal) h.0 ∙ ap refusal is_checked,
    kept_fresh Z (usable p' w') p' (program_in b) (ranged p' w') (subst (λ (z : Sizes). Ranged z (program_in b)) same_sizes (ranged (program_in b) m.well_formed))
        (drop_within s (program_in b) m.well_formed) (drop_initial s (program_in b) m.well_formed) k.marks shows
        ∙ sym fresh-marks,
  )
    where
      Z : Sizes
      Z = sizes_of p'

      -- what the drop left
      fresh-marks : a.marks ≡ fresh_marks p'
      fresh-marks =
          ap (λ (x : Back). x.marks) m.is
          ∙ ap (λ (c : Change). (repaired_to c (changed_program c (program_in b)) b.marks b.output b.work b.second).marks) is_drop

      shows : Shows Z (Kept Z p' (fresh_at Z (program_in b))) k.marks
      shows =
          subst (λ (l : List ℕ). Shows Z (Kept Z p' l) k.marks) (m.own ∙ ap (λ (z : Sizes). fresh_at z (program_in b)) same_sizes)
          (subst (λ (o : Outcome). Shows (sizes_of o.program) (Kept (sizes_of o.program) o.program b.marks) k.marks) is_read (subst (λ (v : Verdict). Pruned v (read_file (wrote a)).program b.marks k.marks) is_checked h.1))
