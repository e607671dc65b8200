-- The search over the part of the table that has one routine's edges: it finds what the search over the whole table finds,
-- unless the configuration can be a called entry.
use mathlib.Core.Path.{◌≡◌, refl, ap}
use mathlib.Core.Logic.{◌≢◌}
use mathlib.Core.Bool.{Bool, false, ◌||◌, ◌&&◌}
use mathlib.Core.List.{List, [], ◌∷◌, map}
use Prim.Native.Nat.{ℕ, zero, suc, ◌+◌, ◌-◌, ◌≤◌, ◌<◌}
use native.Mathlib.Omega.{arith}
use native.Mathlib.Nat.{sub-zero}
use lib.Dec.{eqb}
use lib.ListN.{length, get_or, take, drop}
use borrow.Author.Tests.{ne_eqb}
use Rattle.program.specs.Frames.{edge_key}
use Rattle.tables.specs.Keys.{Ascending}
use Rattle.program.specs.Decoded.{edge_of}
use Rattle.index.specs.Part.{FirstOf}
use Rattle.index.proofs.RoutinePart.{part_starts, before_part, after_part}
use Rattle.base.specs.Searches.{any_from}
use Rattle.support.specs.Parts.{any_key, entry_supports, return_supports, call_supports, states_to_try, action_supports, edge_supports, supports, PartOf}
use Rattle.program.specs.declared.sizes.Sizes.{Sizes}
use Rattle.support.proofs.KeysAsked.{none_met}

-- ---- the part of a list outside which a test fails

met_in_part : (t : ℕ → Bool) (ks : List ℕ) (a b : ℕ) → a ≤ b → b ≤ length ks → ((j : ℕ) → j < a → t (get_or ks j 0) ≡ false)
    → ((j : ℕ) → b ≤ j → j < length ks → t (get_or ks j 0) ≡ false) → any_key t (take (b - a) (drop a ks)) ≡ any_key t ks
unfolding any_key
met_in_part t [] zero b l h low high = let e : b - 0 ≡ 0 = omega arith in rw e refl
met_in_part t [] (suc a) b l h low high = let e : b - suc a ≡ 0 = omega arith in rw e refl
met_in_part t (k ∷ ks) (suc a) zero l h low high = absurd (omega arith)
met_in_part t (k ∷ ks) (suc a) (suc b) l h low high =
    let e : suc b - suc a ≡ b - a = omega arith in
    rw (low 0 (omega arith), e)
    (met_in_part t ks a b (omega arith) (omega arith) (λ j x. low (suc j) (omega arith)) (λ j x y. high (suc j) (omega arith) (omega arith)))
met_in_part t (k ∷ ks) zero zero l h low high = none_met t (k ∷ ks) (λ j x. high j (omega arith) x)
met_in_part t (k ∷ ks) zero (suc b) l h low high =
    let e = met_in_part t ks zero b (omega arith) (omega arith) (λ j x. absurd (omega arith)) (λ j x y. high (suc j) (omega arith) (omega arith)) in
    let s : suc b - 0 ≡ suc b = omega arith in
    rw s (ap (λ (z : Bool). t k || z) (rw (sub-zero b) at e))

-- ---- the part of one routine

pub its_part : {keys : List ℕ} {f a b : ℕ} → FirstOf keys (length keys) f a → FirstOf keys (length keys) (f + 1) b
    → Ascending 0 (map edge_key (map edge_of keys)) → PartOf keys f (take (b - a) (drop a keys))
its_part {keys} {a = a} {b} x y up =
    record {
      decides = λ t other.
          met_in_part t keys a b (part_starts x y) y.within (λ j h. other (get_or keys j 0) (before_part x y j h))
          (λ j l h. other (get_or keys j 0) (after_part x y up j l h));
    }

module _ (Z : Sizes) where
  -- ---- what an edge of another routine supports

  module _ (next kept : List ℕ) (f n r q : ℕ) (no-entry : eqb n 0 && eqb r q ≡ false) where
    other_supports : (key : ℕ) → (edge_of key).routine ≢ f → edge_supports Z next kept f n r q (edge_of key) ≡ false
    unfolding edge_supports call_supports entry_supports return_supports action_supports states_to_try any_from
    other_supports key h = rw (no-entry, ne_eqb (edge_of key).routine f h) refl

    -- the search over the part and the one over the table find the same
    pub part_supports : {keys part : List ℕ} → PartOf keys f part → supports Z part next kept f n r q ≡ supports Z keys next kept f n r q
    unfolding supports
    part_supports z = z.decides (λ key. edge_supports Z next kept f n r q (edge_of key)) other_supports
