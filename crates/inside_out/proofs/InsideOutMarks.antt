-- The inside-out repair of the marks, by what the functions below promise.
use mathlib.Core.Path.{◌≡◌, refl, sym, ap, subst, ◌∙◌}
use mathlib.Core.Logic.{◌⊎◌, inl, inr, ◌↔◌, ◌≢◌}
use mathlib.Core.Bool.{Bool, true, false, true≢false}
use mathlib.Core.List.{List}
use Prim.Native.Nat.{ℕ, ◌<◌}
use lib.ListN.{get_or, replicate}
use Rattle.program.specs.declared.sizes.Sizes.{Sizes}
use Rattle.program.specs.Sizes.{max_routines}
use Rattle.program.specs.Chosen.{sizes_of}
use Rattle.program.specs.Program.{Program}
use Rattle.program.specs.WellFormed.{WellFormed}
use Rattle.reach.specs.Configurations.{none_set}
use Rattle.reach.specs.Marks.{fresh_at}
use Rattle.reach.specs.Ranged.{Sized}
use Rattle.base.specs.Filled.{Filled}
use Rattle.base.proofs.SetFlags.{zeros}
use Rattle.callgraph.specs.Components.{Reanalyzed, Gained}
use Rattle.callgraph.specs.Parts.{joined_flag}
use Rattle.callgraph.proofs.RoutineSets.{joined_member}
use Rattle.components.specs.TurnParts.{DropOf}
use Rattle.edit.specs.Edits.{relabelled}
use Rattle.edit.specs.Editing.{edited_program, Applies}
use Rattle.edit.specs.declared.Step.{Step}
use Rattle.edit.specs.declared.Label.{Label}
use Rattle.edit.specs.declared.Edit.TheVariants.{Add, Drop, Replace}
use Rattle.edit.proofs.Theorems.{applied_well_formed, dropped_is, replaced_is}
use Rattle.exchange.specs.Changes.{Exchange, step, whole}
use Rattle.exchange.specs.Changing.{emptied, exchanged_program}
use Rattle.exchange.proofs.Theorems.{emptied_well_formed}
use Rattle.forward.specs.Parts.{Repaired}
use Rattle.forward.proofs.EditedSteps.{other_steps, drop_within}
use Rattle.forward.proofs.ExchangedSteps.{in_others, emptied_within}
use Rattle.forward.proofs.ChangedMarks.{own_sized, edited_sizes}
use Rattle.forward.proofs.ExchangedMarks.{emptied_sized}
use Rattle.gained.specs.Parts.{FlagsOf}
use Rattle.inside_out.specs.Reanalyzed.{ReanalyzedBy, Told}

-- ---- a drop

-- a drop of nothing leaves the program as it was
pub none_dropped : {Z : Sizes} (p : Program) → WellFormed p → Sized Z p → (f : ℕ) → DropOf Z p p f
none_dropped p w s f =
    record { well_formed = w; old_ranged = s.ranged; sized = s; automaton = refl; steps = λ h. h; others = λ n h. h }

module _ {Z : Sizes} (p wanted p' : Program) (f : ℕ) (e : p' ≡ wanted) where
  pub drop_of : DropOf Z p wanted f → DropOf Z p p' f
  drop_of d = subst (λ (x : Program). DropOf Z p x f) (sym e) d

  pub dropped_inside_out : {marks work flags : List ℕ}
      → (marks ≡ fresh_at Z p') × (work ≡ none_set Z) × ((g : ℕ) → g < 16 → (get_or flags g 0 ≢ 0) ↔ Reanalyzed p p' f g)
      → Repaired Z wanted p' marks work × FlagsOf (Reanalyzed p wanted f) flags
  dropped_inside_out {flags = flags} h =
      (record { is_wanted = e; own = h.0; clear = h.1 }, subst (λ (x : Program). FlagsOf (Reanalyzed p x f) flags) e (record { flag = h.2 }))

pub step_drop : {Z : Sizes} (s : Step) (p : Program) → WellFormed p → Applies (Drop s) p → Z ≡ sizes_of p → DropOf Z p (edited_program (Drop s) p) s.routine
step_drop s p w a i =
    record {
      well_formed = applied_well_formed (Drop s) p w a;
      old_ranged = (own_sized p i w).ranged;
      sized = own_sized _ (edited_sizes (Drop s) p i) (applied_well_formed (Drop s) p w a);
      automaton = ap (λ (x : Program). x.automaton) (dropped_is s p);
      steps = λ h. (drop_within s p w).steps h;
      others = λ ne h. other_steps (Drop s) p ne h;
    }

-- so it is where all edges of routine f are dropped
pub routine_drop : {Z : Sizes} (f : ℕ) (p : Program) → WellFormed p → Z ≡ sizes_of p → DropOf Z p (emptied f p) f
unfolding emptied
routine_drop f p w i =
    record {
      well_formed = emptied_well_formed f p w;
      old_ranged = (own_sized p i w).ranged;
      sized = emptied_sized f p w i;
      automaton = refl;
      steps = λ h. (emptied_within f p).steps h;
      others = λ ne h. in_others f ne p.edges h;
    }

-- ---- a drop and then an add

either_flags : {R S : ℕ → Type 0} {a b c : List ℕ} → FlagsOf R a → FlagsOf S b → Filled (joined_flag a b) max_routines c → FlagsOf (λ f. R f ⊎ S f) c
either_flags {a = a} {b = b} x y j =
    record {
      flag = λ f h. (
        λ o. elim ((joined_member a b j f h).0 o) [ inl m ↦ inl ((x.flag f h).0 m) | inr m ↦ inr ((y.flag f h).0 m) ],
        λ o. (joined_member a b j f h).1 (elim o [ inl m ↦ inl ((x.flag f h).1 m) | inr m ↦ inr ((y.flag f h).1 m) ]),
      );
    }

module _ (s : Step) (l : Label) (p d : Program) {a b c : List ℕ} where
  pub replaced_flags : d ≡ edited_program (Drop s) p → FlagsOf (ReanalyzedBy (step (Drop s)) p) a → FlagsOf (ReanalyzedBy (step (Add (relabelled s l))) d) b → Filled (joined_flag a b) max_routines c
      → FlagsOf (ReanalyzedBy (step (Replace s l)) p) c
  replaced_flags e x y j = either_flags {b = b} x (rw (replaced_is s l p) (rw e at y)) j

pub exchanged_flags : (x : Exchange) (p : Program) {a b c : List ℕ} → FlagsOf (Reanalyzed p (emptied x.routine p) x.routine) a
    → FlagsOf (Gained (emptied x.routine p) (exchanged_program x p)) b → Filled (joined_flag a b) max_routines c → FlagsOf (ReanalyzedBy (whole x) p) c
exchanged_flags x p y z j = either_flags y z j

-- ---- what is told

module _ (R : ℕ → Type 0) {inward : Bool} where
  pub told : inward ≡ true → {flags : List ℕ} → FlagsOf R flags → FlagsOf (Told inward R) flags
  told i k = record { flag = λ f h. (λ o. (i, (k.flag f h).0 o), λ x. (k.flag f h).1 x.1) }

  pub none_told : inward ≡ false → FlagsOf (Told inward R) (replicate 16 0)
  none_told i = record { flag = λ f h. (λ o. absurd (o (zeros 16 f)), λ x. absurd (true≢false (sym x.0 ∙ i))) }
