-- The stages of an exchange: the drop in the sizes before, the same marks in the sizes after, and the add there.
use mathlib.Core.Path.{◌≡◌, sym, ap, ◌∙◌}
use mathlib.Core.List.{List}
use Prim.Native.Nat.{ℕ, ◌≤◌}
use lib.ListN.{length, take, replicate, length-replicate}
use lib.Seq.{length-take-le}
use Rattle.base.specs.Filled.{Filled}
use Rattle.automaton.specs.declared.Event.{Event}
use Rattle.program.specs.declared.sizes.Sizes.{Sizes}
use Rattle.program.specs.Chosen.{numbers}
use Rattle.program.specs.Program.{Program}
use Rattle.reach.specs.Runs.{step_of, HasStep}
use Rattle.reach.specs.Ranged.{Ranged, Sized}
use Rattle.reach.specs.Marks.{fresh_at}
use Rattle.resize.specs.Resized.{Alike, renumbered}
use Rattle.resize.proofs.MarksResized.{resized_fresh}
use Rattle.exchange.specs.Changes.{Exchange}
use Rattle.exchange.specs.Changing.{emptied, exchanged_program}
use Rattle.exchange.proofs.Theorems.{exchanged_well_formed}
use Rattle.forward.specs.Parts.{Repaired}
use Rattle.stages.specs.Parts.{Exchanges, Exchanged}
use Rattle.forward.proofs.ChangedMarks.{own_sized}
use Rattle.forward.proofs.ExchangedSteps.{in_inserted_all}
use Rattle.forward.proofs.ExchangedMarks.{emptied_sized}

-- every step that is left is one of the exchanged program
left_step : (x : Exchange) (p : Program) {f n m : ℕ} {l : Event} → HasStep (emptied x.routine p) f n l m
    → HasStep (exchanged_program x p) f n l m
unfolding emptied exchanged_program
left_step x p h = in_inserted_all step_of x.edges _ h

-- so sizes of the exchanged program hold what is left
left_ranged : {Y : Sizes} (x : Exchange) (p : Program) → Ranged Y (exchanged_program x p) → Ranged Y (emptied x.routine p)
unfolding emptied exchanged_program
left_ranged x p r =
    record {
      main = r.main;
      routines = r.routines;
      routine = λ h. r.routine (left_step x p h);
      source = λ h. r.source (left_step x p h);
      target = λ h. r.target (left_step x p h);
      called = λ h. r.called (left_step x p h);
      no_exit = λ h. r.no_exit (left_step x p h);
      states = r.states;
      after = r.after;
      begun = r.begun;
    }

module _ {Z Y : Sizes} (x : Exchange) (p : Program) (s : Exchanges Z Y x p) where
  pub sizes_alike : Alike Z Y
  unfolding exchanged_program
  sizes_alike =
      record {
        routines = ap (λ (z : Sizes). z.routines) s.before ∙ sym (ap (λ (z : Sizes). z.routines) s.after);
        states = ap (λ (z : Sizes). z.states) s.before ∙ sym (ap (λ (z : Sizes). z.states) s.after);
      }

  left_before : Sized Z (emptied x.routine p)
  left_before = emptied_sized x.routine p s.well_formed s.before

  pub exchanged_after : Sized Y (exchanged_program x p)
  exchanged_after = own_sized _ s.after (exchanged_well_formed x p s.well_formed s.fits)

  pub left_after : Sized Y (emptied x.routine p)
  left_after =
      record { usable = exchanged_after.usable; admitted = exchanged_after.admitted; ranged = left_ranged x p exchanged_after.ranged }

  -- what the drop leaves, in the sizes after
  pub left_resized : {own second : List ℕ} → own ≡ fresh_at Z (emptied x.routine p)
      → Filled (renumbered Z Y own) (numbers Y) second
      → second ≡ fresh_at Y (emptied x.routine p)
  left_resized o w =
      resized_fresh left_before.usable left_after.usable (emptied x.routine p) left_before.ranged left_after.ranged sizes_alike o w

-- the whole working buffer is cleared
pub cleared : {Y : Sizes} {wanted p : Program} {second part work : List ℕ} → Repaired Y wanted p second part
    → work ≡ replicate (length work) 0
    → Exchanged Y wanted p second work
cleared r e = record { is_wanted = r.is_wanted; own = r.own; clear = e }

pub zero_throughout : (n : ℕ) {work : List ℕ} → work ≡ replicate n 0 → work ≡ replicate (length work) 0
zero_throughout n e = e ∙ ap (λ (k : ℕ). replicate k 0) (sym (ap length e ∙ length-replicate {A = ℕ} n 0))

-- of the working buffer so much is lent
pub part_room : (n : ℕ) (work : List ℕ) → n ≤ length work → n ≡ length (take n work)
part_room n work h = sym (length-take-le {A = ℕ} n work h)
