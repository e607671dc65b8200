-- The marks of the program that a change makes, whatever the change is, by what the functions below promise.
use mathlib.Core.Path.{◌≡◌, sym, subst}
use mathlib.Core.List.{List}
use Prim.Native.Nat.{ℕ}
use Rattle.program.specs.declared.sizes.Sizes.{Sizes}
use Rattle.program.specs.Chosen.{sizes_of}
use Rattle.program.specs.Program.{Program}
use Rattle.program.specs.WellFormed.{WellFormed}
use Rattle.reach.specs.Configurations.{Sub, Usable, none_set}
use Rattle.reach.specs.Reachable.{Derivable, Initial, Any}
use Rattle.reach.specs.Marks.{Marked, Shows, ClosedBut, fresh_at}
use Rattle.reach.specs.Ranged.{Ranged, Sized}
use Rattle.reach.proofs.ProgramInSizes.{sized}
use Rattle.edit.specs.Editing.{edited_program}
use Rattle.edit.specs.declared.Edit.{Edit}
use Rattle.reach.proofs.LeastSetLaws.{Within}
use Rattle.reach.proofs.Growing.{Grown, Spanned, grown_closed, grown_marks}
use Rattle.prune.specs.Pruning.{Kept}
use Rattle.prune.proofs.Theorems.{kept_fresh}
use Rattle.forward.specs.Parts.{Repaired}

-- ---- a program in its own sizes, and an edited one

pub own_sized : {Z : Sizes} (p : Program) → Z ≡ sizes_of p → WellFormed p → Sized Z p
own_sized p e w = subst (λ (y : Sizes). Sized y p) (sym e) (sized p w)

pub edited_sizes : {Z : Sizes} (e : Edit) (p : Program) → Z ≡ sizes_of p → Z ≡ sizes_of (edited_program e p)
unfolding edited_program
edited_sizes e p i = i

module _ {Z : Sizes} (U : Usable Z) (p wanted : Program) where
  -- steps were added at the nodes of A
  module _ (p' : Program) {A : ℕ → ℕ → Type 0} (g : Grown Z U p wanted A) (e : p' ≡ wanted) {old : List ℕ} (o : old ≡ fresh_at Z p) where
    -- what is marked is closed but for the configurations at these nodes
    pub grown_but : {low high : ℕ} → Spanned Z U A low high → ClosedBut Z p' low high old
    grown_but h = rw (o, e) (grown_closed Z U p wanted g h)

    pub grown_own : Ranged Z wanted → {marks work : List ℕ} → Shows Z (Derivable p' (Marked Z old) Any) marks × (work ≡ none_set Z) → Repaired Z wanted p' marks work
    grown_own w h =
        record {
          is_wanted = e;
          own = rw e (grown_marks Z U p wanted g w (rw (e, o) at h.0));
          clear = h.1;
        }

  -- steps were dropped: what is kept of the program's own marks is the wanted program's own
  pub kept_own : Ranged Z p → Ranged Z wanted → Within wanted p → Sub (Initial wanted) (Initial p) → {old marks : List ℕ} → old ≡ fresh_at Z p
      → Shows Z (Kept Z wanted old) marks → marks ≡ fresh_at Z wanted
  kept_own w w' i s {marks = marks} o k = kept_fresh Z U wanted p w' w i s marks (rw o at k)
