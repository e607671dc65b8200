-- Lists that are kept in an array with a count.
use Prim.Native.Nat.{ℕ, ◌<◌}
use mathlib.Core.Path.{◌≡◌}
use mathlib.Core.Bool.{Bool, true}
use mathlib.Core.List.{List}
use lib.ListN.{length, take}
use Rattle.base.proofs.EntriesInUse.{unfilled}

-- room in an array of this size, where one more is to go in
pub room_for : {yes : Bool} (n : ℕ) (xs : List ℕ) {size : ℕ} → length xs ≡ size → (yes ≡ true → length (take n xs) < size) → yes ≡ true → n < length xs
room_for n xs l h e = unfilled n xs (rw l (h e))
