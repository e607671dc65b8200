-- The steps of a program in which a routine is exchanged: without its old edges, and with its new ones.
use mathlib.Core.Path.{◌≡◌, refl, ap, ◌∙◌}
use mathlib.Core.Logic.{◌⊎◌, inl, inr, ◌≢◌}
use mathlib.Core.List.{List, [], ◌∷◌, map, Memᴰ}
use Prim.Native.Nat.{ℕ}
use borrow.Author.Tests.{eqb-true}
use Rattle.automaton.specs.declared.Event.{Event}
use Rattle.program.specs.Program.{Edge, Program}
use Rattle.program.specs.WellFormed.{All}
use Rattle.program.proofs.SectionsAscend.{all_in}
use Rattle.program.specs.declared.sizes.Sizes.{Sizes}
use Rattle.reach.specs.Ranged.{Ranged}
use Rattle.reach.specs.Configurations.{Sub, Usable}
use Rattle.reach.specs.Runs.{Step, step_of, HasStep}
use Rattle.reach.specs.Reachable.{Initial, initial}
use Rattle.reach.proofs.LeastSetLaws.{Within}
use Rattle.reach.proofs.ProgramInSizes.{map_in}
use Rattle.reach.proofs.Growing.{Grown, InRoutine}
use Rattle.edit.specs.Editing.{edited_program}
use Rattle.exchange.specs.Changes.{Exchange, Change, step, whole}
use Rattle.exchange.specs.Changing.{others, inserted_all, emptied, exchanged_program, changed_program, changed_routine}
use Rattle.exchange.specs.Wanted.{Fits, ChangeApplies}
use Rattle.exchange.proofs.OtherRoutines.{own, others_remaining}
use Rattle.forward.proofs.EditedSteps.{in_inserted, inserted_in, remaining_in, in_remaining, other_steps, steps_other}

-- ---- lists of edges

-- of the edges of other routines
pub others_in : {A : Type 0} (f : ℕ) (s : Edge → A) {x : A} (es : List Edge) → Memᴰ x (map s (others f es)) → Memᴰ x (map s es)
others_in f s es m = remaining_in s (own f) es (rw (others_remaining f es) at m)

pub in_others : (f : ℕ) {x : Step} → x.routine ≢ f → (es : List Edge) → Memᴰ x (map step_of es) → Memᴰ x (map step_of (others f es))
in_others f n es m =
    rw (others_remaining f es)
    (in_remaining step_of (own f) (λ d h z. n (ap (λ (y : Step). y.routine) z ∙ eqb-true d.routine f h)) es m)

-- of the edges with more inserted
module _ {A : Type 0} (s : Edge → A) {x : A} where
  pub in_inserted_all : (ds es : List Edge) → Memᴰ x (map s es) → Memᴰ x (map s (inserted_all ds es))
  unfolding inserted_all
  in_inserted_all [] es m = m
  in_inserted_all (d ∷ ds) es m = in_inserted s d (inserted_all ds es) (in_inserted_all ds es m)

  pub inserted_all_in : (ds es : List Edge) → Memᴰ x (map s (inserted_all ds es)) → Memᴰ x (map s ds) ⊎ Memᴰ x (map s es)
  unfolding inserted_all
  inserted_all_in [] es m = inr m
  inserted_all_in (d ∷ ds) es m =
      elim (inserted_in s d (inserted_all ds es) m) [
        | inl h ↦ inl (Memᴰ.head h)
        | inr n ↦ elim (inserted_all_in ds es n) [ inl y ↦ inl (Memᴰ.tail y) | inr y ↦ inr y ]
      ]

own_routine : (f : ℕ) {x : Step} (ds : List Edge) → All (own f) ds → Memᴰ x (map step_of ds) → x.routine ≡ f
own_routine f ds a m =
    let z = map_in step_of ds m in
    ap (λ (y : Step). y.routine) z.is ∙ eqb-true z.from.routine f (all_in (own f) ds a z.member)

-- ---- without the edges of routine f: no step more, and of other routines none less

module _ (f : ℕ) (p : Program) where
  pub emptied_within : Within (emptied f p) p
  unfolding emptied
  emptied_within = record { steps = λ h. others_in f step_of p.edges h; moves = λ q e x v. v }

  pub emptied_initial : Sub (Initial (emptied f p)) (Initial p)
  unfolding emptied
  emptied_initial = record { at = go }
    where
      go : {g n r q : ℕ} → Initial (emptied f p) g n r q → Initial p g n r q
      go (initial m) = initial m

-- ---- and with the new edges, which are all of that routine

module _ (x : Exchange) (p : Program) where
  pub exchanged_grown : {Z : Sizes} (U : Usable Z) → Fits x p → Ranged Z (emptied x.routine p) → Grown Z U (emptied x.routine p) (exchanged_program x p) (InRoutine x.routine)
  unfolding emptied exchanged_program
  exchanged_grown U a r =
      record {
        automaton = refl;
        ranged = r;
        steps = λ h. in_inserted_all step_of x.edges _ h;
        only = λ h.
            elim (inserted_all_in step_of x.edges _ h) [
              | inl m ↦ inr (own_routine x.routine x.edges a.edges_own m)
              | inr m ↦ inl m
            ];
      }

  module _ {g n m : ℕ} {l : Event} (ne : g ≢ x.routine) where
    other_exchanged : HasStep p g n l m → HasStep (exchanged_program x p) g n l m
    unfolding exchanged_program
    other_exchanged h = in_inserted_all step_of x.edges _ (in_others x.routine ne p.edges h)

    exchanged_other : Fits x p → HasStep (exchanged_program x p) g n l m → HasStep p g n l m
    unfolding exchanged_program
    exchanged_other a h =
        elim (inserted_all_in step_of x.edges _ h) [
          | inl y ↦ absurd (ne (own_routine x.routine x.edges a.edges_own y))
          | inr y ↦ others_in x.routine step_of p.edges y
        ]

-- ---- a change, of either kind, leaves the steps of every other routine, and the automaton

pub changed_other : (c : Change) (p : Program) {g n m : ℕ} {l : Event} → g ≢ changed_routine c → HasStep p g n l m → HasStep (changed_program c p) g n l m
changed_other (step e) p ne h = other_steps e p ne h
changed_other (whole x) p ne h = other_exchanged x p ne h

pub other_changed : (c : Change) (p : Program) → ChangeApplies c p → {g n m : ℕ} {l : Event} → g ≢ changed_routine c → HasStep (changed_program c p) g n l m → HasStep p g n l m
other_changed (step e) p a ne h = steps_other e p ne h
other_changed (whole x) p a ne h = exchanged_other x p ne a h

pub changed_automaton : (c : Change) (p : Program) → (changed_program c p).automaton ≡ p.automaton
unfolding edited_program exchanged_program
changed_automaton (step e) p = refl
changed_automaton (whole x) p = refl
