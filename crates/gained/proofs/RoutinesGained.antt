-- The loop over all numbers: the flags are those of the routines that have a mark more so far.
use mathlib.Core.Path.{◌≡◌}
use mathlib.Core.Logic.{◌↔◌, ◌≢◌}
use mathlib.Core.List.{List}
use Prim.Native.Nat.{ℕ, ◌≤◌, ◌<◌}
use native.Mathlib.Omega.{arith}
use native.Mathlib.Decide.{ℕ_discrete}
use lib.ListN.{length, get_or}
use Rattle.program.specs.declared.sizes.Sizes.{Sizes}
use Rattle.program.specs.Chosen.{numbers}
use Rattle.reach.specs.Configurations.{Usable, number, routine_of, node_of, root_of, state_of}
use Rattle.reach.proofs.Numbers.{number-of, routine-of, routine_small, number_fits, node_small, root_small, state_small}
use Rattle.gained.specs.Parts.{FlagsOf, MarkedMore}

-- a number of routine f, below i, is newly marked
pub record NewBelow (Z : Sizes) (old new : List ℕ) (f i : ℕ) : Type 0 where
  pub place : ℕ
  pub below : place < i
  pub routine : routine_of Z place ≡ f
  pub is : get_or new place 0 ≢ 0
  pub was : get_or old place 0 ≡ 0

-- the flags are those of the routines that have a new mark below i
pub record Gaining (Z : Sizes) (old new : List ℕ) (i : ℕ) (flags : List ℕ) : Type 0 where
  pub len : length flags ≡ 16
  pub bound : i ≤ numbers Z
  pub flag : (f : ℕ) → f < 16 → (get_or flags f 0 ≢ 0) ↔ NewBelow Z old new f i

place_of : (Z : Sizes) (f j : ℕ) → routine_of Z j ≡ f → number Z f (node_of Z j) (root_of Z j) (state_of Z j) ≡ j
place_of Z f j e = rw (← e) (number-of Z j)

module _ {Z : Sizes} (U : Usable Z) {old new flags : List ℕ} {i : ℕ} (g : Gaining Z old new i flags) where
  pub gaining_end : numbers Z ≤ i → FlagsOf (MarkedMore Z old new) flags
  gaining_end b = record { flag = λ f h. (λ o. to f ((g.flag f h).0 o), λ x. (g.flag f h).1 (from f x)) }
    where
      to : (f : ℕ) → NewBelow Z old new f i → MarkedMore Z old new f
      to f x =
          let j = x.place in
          let e : number Z f (node_of Z j) (root_of Z j) (state_of Z j) ≡ j = place_of Z f j x.routine in
          record {
            node = node_of Z j;
            root = root_of Z j;
            state = state_of Z j;
            now_there = (
              record {
                routine = rw (← x.routine) (routine_small Z U j (omega (arith, x.below, g.bound)));
                node = node_small Z U j;
                root = root_small Z U j;
                state = state_small Z U j;
              },
              rw e x.is,
            );
            not_before = λ m. m.1 (rw e x.was);
          }

      from : (f : ℕ) → MarkedMore Z old new f → NewBelow Z old new f i
      from f x =
          let j = number Z f x.node x.root x.state in
          let r = x.now_there.0 in
          record {
            place = j;
            below = omega (arith, number_fits r, g.bound, b);
            routine = routine-of r;
            is = x.now_there.1;
            was = elim (ℕ_discrete (get_or old j 0) 0) [ yes e ↦ e | no e ↦ absurd (x.not_before (r, e)) ];
          }
