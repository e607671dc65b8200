-- The marks of an edited program, by what the functions below promise.
use mathlib.Core.Path.{◌≡◌, sym, ap, subst, ◌∙◌}
use mathlib.Core.List.{List}
use Prim.Native.Nat.{ℕ, ◌+◌}
use lib.ListN.{length}
use Rattle.program.specs.declared.sizes.Sizes.{Sizes}
use Rattle.program.specs.Chosen.{sizes_of}
use Rattle.program.specs.Program.{Program}
use Rattle.program.specs.WellFormed.{WellFormed}
use Rattle.reach.specs.Sizes.{node_span}
use Rattle.reach.specs.Configurations.{Usable, number, none_set}
use Rattle.reach.specs.Ranged.{Sized}
use Rattle.reach.specs.Reachable.{Derivable, Any}
use Rattle.reach.specs.Marks.{Marked, Shows, ClosedBut, fresh_at}
use Rattle.reach.proofs.Growing.{node_spanned}
use Rattle.reach.proofs.ShapeKept.{marks-length}
use Rattle.prune.specs.Pruning.{Kept}
use Rattle.edit.specs.Edits.{edge_of_step, relabelled}
use Rattle.edit.specs.Editing.{without, inserted, with_edges, edited_program, Applies}
use Rattle.edit.specs.declared.Step.{Step}
use Rattle.edit.specs.declared.Label.{Label}
use Rattle.edit.specs.declared.Edit.{Edit}
use Rattle.edit.specs.declared.Edit.TheVariants.{Add, Drop, Replace}
use Rattle.edit.proofs.Theorems.{applied_well_formed, added_is, dropped_is, replaced_is, drop_applies, add_applies}
use Rattle.forward.specs.Parts.{Keeps, Repaired, LentForward, MendedForward}
use Rattle.forward.proofs.EditedSteps.{add_grown, drop_within, drop_initial}
use Rattle.forward.proofs.ChangedMarks.{own_sized, edited_sizes, grown_but, grown_own, kept_own}

module _ (s : Step) (p p' : Program) where
  is_added : p' ≡ with_edges p (inserted (edge_of_step s) p.edges) → p' ≡ edited_program (Add s) p
  is_added e = e ∙ sym (added_is s p)

  pub is_dropped : p' ≡ with_edges p (without (edge_of_step s) p.edges) → p' ≡ edited_program (Drop s) p
  is_dropped e = e ∙ sym (dropped_is s p)

module _ {Z : Sizes} (s : Step) (p p' : Program) (w : WellFormed p) (i : Z ≡ sizes_of p) where
  in_sizes : Sized Z p
  in_sizes = own_sized p i w

  module _ (a : Applies (Add s) p) (e : p' ≡ with_edges p (inserted (edge_of_step s) p.edges)) where
    add_sized : Sized Z (edited_program (Add s) p)
    add_sized = own_sized _ (edited_sizes (Add s) p i) (applied_well_formed (Add s) p w a)

    pub added_well_formed : WellFormed p' × Sized Z p'
    added_well_formed =
        (subst WellFormed (sym (is_added s p p' e)) (applied_well_formed (Add s) p w a), subst (Sized Z) (sym (is_added s p p' e)) add_sized)

    module _ {old : List ℕ} (o : old ≡ fresh_at Z p) where
      -- what is marked is closed but for the configurations at the source of the new step
      pub added_closed : ClosedBut Z p' (number Z s.routine s.source 0 0) (number Z s.routine s.source 0 0 + node_span Z) old
      added_closed =
          grown_but in_sizes.usable p _ p' (add_grown s p w in_sizes.usable in_sizes.ranged) (is_added s p p' e) o
          (node_spanned Z in_sizes.usable s.routine s.source)

      pub added : {marks work : List ℕ} → Shows Z (Derivable p' (Marked Z old) Any) marks × (work ≡ none_set Z) → Repaired Z (edited_program (Add s) p) p' marks work
      added h = grown_own in_sizes.usable p _ p' (add_grown s p w in_sizes.usable in_sizes.ranged) (is_added s p p' e) o add_sized.ranged h

  module _ (a : Applies (Drop s) p) where
    drop_sized : Sized Z (edited_program (Drop s) p)
    drop_sized = own_sized _ (edited_sizes (Drop s) p i) (applied_well_formed (Drop s) p w a)

    module _ (e : p' ≡ with_edges p (without (edge_of_step s) p.edges)) where
      pub dropped_well_formed : WellFormed p' × Sized Z p'
      dropped_well_formed =
          (subst WellFormed (sym (is_dropped s p p' e)) (applied_well_formed (Drop s) p w a), subst (Sized Z) (sym (is_dropped s p p' e)) drop_sized)

      pub keeps : {old marks work : List ℕ} → Shows Z (Kept Z p' old) marks × (work ≡ none_set Z) → Keeps Z (edited_program (Drop s) p) p' old marks work
      keeps h = record { is_wanted = is_dropped s p p' e; kept = h.0; clear = h.1 }

    pub dropped : {old marks work : List ℕ} → old ≡ fresh_at Z p → Keeps Z (edited_program (Drop s) p) p' old marks work → Repaired Z (edited_program (Drop s) p) p' marks work
    dropped o k =
        record {
          is_wanted = k.is_wanted;
          own = rw k.is_wanted
              (kept_own in_sizes.usable p _ in_sizes.ranged drop_sized.ranged (drop_within s p w) (drop_initial s p w) o (rw k.is_wanted at k.kept));
          clear = k.clear;
        }

-- a replace is the drop and then the add
module _ {Z : Sizes} (s : Step) (l : Label) (p d p' : Program) (w : WellFormed p) (a : Applies (Replace s l) p) {m k : List ℕ} (x : Repaired Z (edited_program (Drop s) p) d m k) where
  pub between_well_formed : WellFormed d
  between_well_formed = subst WellFormed (sym x.is_wanted) (applied_well_formed (Drop s) p w (drop_applies s l p a))

  pub between_sizes : Z ≡ sizes_of p → Z ≡ sizes_of d
  between_sizes i = edited_sizes (Drop s) p i ∙ ap sizes_of (sym x.is_wanted)

  pub between_applies : Applies (Add (relabelled s l)) d
  between_applies = subst (Applies (Add (relabelled s l))) (sym x.is_wanted) (add_applies s l p w a)

  pub replaced : {marks work : List ℕ} → Repaired Z (edited_program (Add (relabelled s l)) d) p' marks work → Repaired Z (edited_program (Replace s l) p) p' marks work
  replaced y =
      record {
        is_wanted = y.is_wanted ∙ ap (edited_program (Add (relabelled s l))) x.is_wanted ∙ sym (replaced_is s l p);
        own = y.own;
        clear = y.clear;
      }

-- on the program's own marks the marks become the edited program's own, whatever the edit is
pub mended_own : {Z : Sizes} (e : Edit) (p r : Program) (old marks work : List ℕ) → old ≡ fresh_at Z p → MendedForward e Z p r old marks work
    → Repaired Z (edited_program e p) r marks work
mended_own (Add s) p r old marks work o m = m
mended_own (Drop s) p r old marks work o m = m.1 o
mended_own (Replace s l) p r old marks work o m = m

-- and they may be lent for any edit
pub own_lent : {Z : Sizes} (U : Usable Z) (e : Edit) (p : Program) {marks : List ℕ} → marks ≡ fresh_at Z p → LentForward e Z p marks
own_lent U (Add s) p o = o
own_lent {Z} U (Drop s) p o = ap length o ∙ marks-length Z U p
own_lent U (Replace s l) p o = o
