-- The marks of a program in which a routine is exchanged, by what the functions below promise.
use mathlib.Core.Path.{◌≡◌, sym, subst}
use mathlib.Core.List.{List}
use Prim.Native.Nat.{ℕ, ◌+◌, ◌*◌, ◌<◌}
use native.Mathlib.Omega.{arith}
use Rattle.program.specs.declared.sizes.Sizes.{Sizes}
use Rattle.program.specs.Chosen.{sizes_of}
use Rattle.program.specs.Program.{Program}
use Rattle.program.specs.WellFormed.{WellFormed}
use Rattle.reach.specs.Ranged.{Sized}
use Rattle.reach.specs.Sizes.{routine_span}
use Rattle.reach.specs.Configurations.{none_set}
use Rattle.reach.specs.Reachable.{Derivable, Any}
use Rattle.reach.specs.Marks.{Marked, Shows, ClosedBut, fresh_at}
use Rattle.reach.proofs.Growing.{Grown, InRoutine, routine_spanned}
use Rattle.prune.specs.Pruning.{Kept}
use Rattle.exchange.specs.Changes.{Exchange}
use Rattle.exchange.specs.Changing.{emptied, exchanged_program}
use Rattle.exchange.specs.Wanted.{Fits}
use Rattle.exchange.proofs.Theorems.{emptied_well_formed, exchanged_well_formed}
use Rattle.forward.specs.Parts.{Repaired}
use Rattle.forward.proofs.ExchangedSteps.{emptied_within, emptied_initial, exchanged_grown}
use Rattle.forward.proofs.ChangedMarks.{own_sized, grown_but, grown_own, kept_own}

-- ---- the old edges are dropped together, in the sizes of the program

module _ {Z : Sizes} (f : ℕ) (p : Program) (w : WellFormed p) (i : Z ≡ sizes_of p) where
  emptied_sizes : Z ≡ sizes_of (emptied f p)
  unfolding emptied
  emptied_sizes = i

  pub emptied_sized : Sized Z (emptied f p)
  emptied_sized = own_sized (emptied f p) emptied_sizes (emptied_well_formed f p w)

  pub emptied_fits : {p' : Program} → p' ≡ emptied f p → WellFormed p' × Sized Z p'
  emptied_fits e = (subst WellFormed (sym e) (emptied_well_formed f p w), subst (Sized Z) (sym e) emptied_sized)

  -- what is kept of the program's own marks is those of the program without them
  pub routine_dropped : {old marks : List ℕ} → old ≡ fresh_at Z p → Shows Z (Kept Z (emptied f p) old) marks → marks ≡ fresh_at Z (emptied f p)
  routine_dropped o k =
      kept_own emptied_sized.usable p _ (own_sized p i w).ranged emptied_sized.ranged (emptied_within f p) (emptied_initial f p) o k

-- ---- and the new ones are added together, in any sizes that hold both programs

module _ {Z : Sizes} (x : Exchange) (p : Program) (w : WellFormed p) (a : Fits x p) (d : Sized Z (emptied x.routine p)) (s : Sized Z (exchanged_program x p)) where
  pub routine_small : x.routine < Z.routines
  unfolding emptied
  routine_small = omega (arith, a.routine_fits, d.ranged.routines)

  gains : Grown Z d.usable (emptied x.routine p) (exchanged_program x p) (InRoutine x.routine)
  gains = exchanged_grown x p d.usable a d.ranged

  module _ (p' : Program) (e : p' ≡ exchanged_program x p) where
    pub exchanged_fits : WellFormed p' × Sized Z p'
    exchanged_fits = (subst WellFormed (sym e) (exchanged_well_formed x p w a), subst (Sized Z) (sym e) s)

    module _ {old : List ℕ} (o : old ≡ fresh_at Z (emptied x.routine p)) where
      -- what is marked is closed but for the configurations of the routine
      pub exchanged_closed : ClosedBut Z p' (x.routine * routine_span Z) (x.routine * routine_span Z + routine_span Z) old
      exchanged_closed = grown_but d.usable _ _ p' gains e o (routine_spanned Z d.usable x.routine)

      pub exchanged_own : (marks work : List ℕ) → Shows Z (Derivable p' (Marked Z old) Any) marks × (work ≡ none_set Z) → Repaired Z (exchanged_program x p) p' marks work
      exchanged_own marks work h = grown_own d.usable _ _ p' gains e o s.ranged h
