-- A table of keys in the place of another: its first keys, then the new ones, and then the others.
use mathlib.Core.Path.{◌≡◌, ap, sym, ◌∙◌}
use mathlib.Core.List.{List, ◌++◌, append_assoc}
use Prim.Native.Nat.{ℕ, min, ◌+◌, ◌-◌, ◌≤◌}
use native.Mathlib.Omega.{arith}
use lib.ListN.{length, take, drop, length-take}
use lib.Seq.{length-take-le, take-take, take-add, drop_at}
use Rattle.base.proofs.EntriesInUse.{in_use_same}
use Rattle.tables.specs.Keys.{Holds}
use Rattle.program.specs.Sizes.{max_edges}

-- from one place to another
part : (xs : List ℕ) (a n : ℕ) → a ≤ n → a ≤ length xs → take (n - a) (drop a xs) ≡ drop a (take n xs)
part xs a n h k =
    let e : n ≡ a + (n - a) = omega arith in
    sym (ap (λ i. drop a (take i xs)) e ∙ rw (take-add a (n - a) xs) (drop_at (take a xs) (take (n - a) (drop a xs)) a (length-take-le a xs k)))

-- n keys of one table are in use and m of the other, and there is room for all of them
pub record Joining (xs : List ℕ) (n at : ℕ) (ys : List ℕ) (m : ℕ) : Type 0 where
  pub counted : n ≡ length (take n xs)
  pub inside : at ≤ n
  pub room : length (take n xs) + length (take m ys) ≤ max_edges
  pub old_size : length xs ≡ max_edges
  pub new_size : length ys ≡ max_edges

module _ {xs ys : List ℕ} {n m at : ℕ} (j : Joining xs n at ys m) {u : ℕ} (used : u ≡ min m max_edges) where
  new_used : take u ys ≡ take m ys
  new_used = in_use_same m ys j.new_size used

  module _ {with_new : List ℕ} {r : ℕ} (middle : Holds with_new r (take at xs ++ take u ys)) where
    pub end_joined : {all : List ℕ} {k : ℕ} → Holds all k (take r with_new ++ take (n - at) (drop at xs))
        → take k all ≡ take at (take n xs) ++ (take m ys ++ drop at (take n xs))
    end_joined h =
        let w : at ≤ length xs = omega (arith, j.counted, j.inside, length-take n xs) in
        h.are ∙ rw (middle.are, part xs at n j.inside w, new_used, take-take at n xs j.inside)
        (append_assoc (take at xs) (take m ys) (drop at (take n xs)))
