-- The edges of one routine, as a program's list of them, are a part of the table of edges.
use Prim.Native.Nat.{ℕ, zero, suc, min, ◌+◌, ◌-◌, ◌≤◌, ◌<◌}
use mathlib.Core.Path.{◌≡◌, ap}
use mathlib.Core.Bool.{Bool, true, false}
use mathlib.Core.List.{List, [], ◌∷◌, map}
use native.Mathlib.Omega.{arith}
use native.Mathlib.Nat.{sub-zero}
use lib.ListN.{length, take, drop}
use borrow.Author.Tests.{eq-eqb, ne_eqb}
use Rattle.program.specs.Sizes.{max_edges}
use Rattle.program.specs.Program.{Edge}
use Rattle.program.specs.Frames.{edge_key}
use Rattle.tables.specs.Keys.{Ascending}
use Rattle.program.specs.Decoded.{edge_of}
use Rattle.base.proofs.EntriesInUse.{in_use_same}
use Rattle.index.specs.Part.{FirstOf}
use Rattle.index.proofs.RoutinePart.{routine_at, part_starts, before_part, in_part, after_part}
use Rattle.passes.specs.Passes.{edges_of}
use Rattle.passes.specs.PassParts.{is}

-- the part of a list that passes a test
part_of : (c : ℕ → Bool) (ks : List ℕ) (a b : ℕ) → a ≤ b → b ≤ length ks → ((j : ℕ) → j < a → c (routine_at ks j) ≡ false)
    → ((j : ℕ) → a ≤ j → j < b → c (routine_at ks j) ≡ true) → ((j : ℕ) → b ≤ j → j < length ks → c (routine_at ks j) ≡ false)
    → edges_of c (map edge_of ks) ≡ map edge_of (take (b - a) (drop a ks))
unfolding edges_of
part_of c [] zero b l h low mid high = let e : b - 0 ≡ 0 = omega arith in rw e
part_of c [] (suc a) b l h low mid high = let e : b - suc a ≡ 0 = omega arith in rw e
part_of c (k ∷ ks) (suc a) zero l h low mid high = absurd (omega arith)
part_of c (k ∷ ks) (suc a) (suc b) l h low mid high =
    let e : suc b - suc a ≡ b - a = omega arith in
    rw (low 0 (omega arith), e)
    (part_of c ks a b (omega arith) (omega arith) (λ j x. low (suc j) (omega arith)) (λ j x y. mid (suc j) (omega arith) (omega arith))
    (λ j x y. high (suc j) (omega arith) (omega arith)))
part_of c (k ∷ ks) zero zero l h low mid high =
    rw (high 0 (omega arith) (omega arith))
    (part_of c ks zero zero (omega arith) (omega arith) (λ j x. absurd (omega arith)) (λ j x y. absurd (omega arith))
    (λ j x y. high (suc j) (omega arith) (omega arith)))
part_of c (k ∷ ks) zero (suc b) l h low mid high =
    let e = part_of c ks zero b (omega arith) (omega arith) (λ j x. absurd (omega arith)) (λ j x y. mid (suc j) (omega arith) (omega arith))
    (λ j x y. high (suc j) (omega arith) (omega arith)) in
    let s : suc b - 0 ≡ suc b = omega arith in
    rw (mid 0 (omega arith) (omega arith), s) (ap (λ (es : List Edge). edge_of k ∷ es) (rw (sub-zero b) at e))

module _ {ks : List ℕ} {f a b : ℕ} (x : FirstOf ks (length ks) f a) (y : FirstOf ks (length ks) (f + 1) b)
    (up : Ascending 0 (map edge_key (map edge_of ks))) where
  routine_part : edges_of (is f) (map edge_of ks) ≡ map edge_of (take (b - a) (drop a ks))
  routine_part =
      part_of (is f) ks a b (part_starts x y) y.within (λ j h. ne_eqb (routine_at ks j) f (before_part x y j h))
      (λ j l h. eq-eqb (routine_at ks j) f (in_part x y up j l h))
      (λ j l h. ne_eqb (routine_at ks j) f (after_part x y up j l h))

-- the keys of a table: a count above its size means all of them
module _ (keys : List ℕ) (n : ℕ) {u f a b : ℕ} (room : length keys ≡ max_edges) (e : u ≡ min n max_edges)
    (x : FirstOf (take u keys) (length (take u keys)) f a) (y : FirstOf (take u keys) (length (take u keys)) (f + 1) b) where
  pub routine_edges : Ascending 0 (map edge_key (map edge_of (take n keys)))
      → edges_of (is f) (map edge_of (take n keys)) ≡ map edge_of (take (b - a) (drop a (take u keys)))
  routine_edges up =
      let same = in_use_same n keys room e in
      rw (← same) (routine_part x y (rw (← same) at up))
