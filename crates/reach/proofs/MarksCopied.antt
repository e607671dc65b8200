-- Marks that are cleared, and marks that are copied to a buffer of the same length.
use Prim.Native.Nat.{ℕ}
use mathlib.Core.Path.{◌≡◌, refl}
use mathlib.Core.List.{List, [], ◌++◌, append-nil}
use lib.ListN.{length, take, drop, replicate}
use lib.Seq.{take-length, drop-length}
use Rattle.program.specs.declared.sizes.Sizes.{Sizes}
use Rattle.program.specs.Chosen.{numbers}
use Rattle.reach.specs.Configurations.{none_set}

pub cleared_is : (Z : Sizes) {l : List ℕ} {n : ℕ} → l ≡ replicate n 0 → n ≡ numbers Z → l ≡ none_set Z
unfolding none_set
cleared_is Z e h = rw h at e

pub copied_is : (from to : List ℕ) {copy : List ℕ} → copy ≡ take (length from) from ++ drop (length from) to → length from ≡ length to → copy ≡ from
copied_is from to e h =
    let past : drop (length from) to ≡ [] = rw h (drop-length to) in
    rw (e, past, take-length from, append-nil from) refl
