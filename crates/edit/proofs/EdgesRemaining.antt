-- The edges that remain where all that meet a test are dropped.
use mathlib.Core.Path.{◌≡◌, refl}
use mathlib.Core.Bool.{Bool, true, false, cond, not}
use mathlib.Core.List.{List, [], ◌∷◌, map}
use Prim.Native.Nat.{ℕ, suc, ◌≤◌, ◌<◌}
use native.Mathlib.Omega.{arith}
use lib.ListN.{length}
use Rattle.base.proofs.Bools.{chosen}
use Rattle.tables.specs.Keys.{Ascending}
use Rattle.program.specs.Program.{Edge}
use Rattle.program.specs.Frames.{edge_key}
use Rattle.program.specs.WellFormed.{All}
use Rattle.edit.specs.Editing.{same_edge, without}

unfoldable pub remaining : (Edge → Bool) → List Edge → List Edge
remaining t [] = []
remaining t (e ∷ es) = cond (t e) (remaining t es) (e ∷ remaining t es)

pub without_remaining : (e : Edge) (es : List Edge) → without e es ≡ remaining (same_edge e) es
unfolding without remaining
without_remaining e [] = refl
without_remaining e (d ∷ ds) = rw (without_remaining e ds)

pub lower : (lo k : ℕ) (ks : List ℕ) → lo < k → Ascending k ks → Ascending lo ks
unfolding Ascending
lower lo k [] h s = tt
lower lo k (j ∷ ks) h s = (omega (arith, s.0), s.1)

module _ (t : Edge → Bool) where
  pub length_remaining : (es : List Edge) → length (remaining t es) ≤ length es
  unfolding remaining
  length_remaining [] = omega arith
  length_remaining (e ∷ es) =
      let r = length_remaining es in
      chosen (λ (l : List Edge). length l ≤ suc (length es)) (t e) (omega arith) (omega arith)

  pub all_remaining : (u : Edge → Bool) (es : List Edge) → All u es → All u (remaining t es)
  unfolding All remaining
  all_remaining u [] a = tt
  all_remaining u (e ∷ es) a = let r = all_remaining u es a.1 in chosen (All u) (t e) r (a.0, r)

  pub ascending_remaining : (lo : ℕ) (es : List Edge) → Ascending lo (map edge_key es) → Ascending lo (map edge_key (remaining t es))
  unfolding Ascending remaining
  ascending_remaining lo [] s = tt
  ascending_remaining lo (e ∷ es) s =
      let r = ascending_remaining (edge_key e) es s.1 in
      chosen (λ (l : List Edge). Ascending lo (map edge_key l)) (t e) (lower lo (edge_key e) (map edge_key (remaining t es)) s.0 r) (s.0, r)

-- none that remains meets the test
pub none_remaining : (t : Edge → Bool) (es : List Edge) → All (λ e. not (t e)) (remaining t es)
unfolding All remaining
none_remaining t [] = tt
none_remaining t (e ∷ es) = go (t e) refl (none_remaining t es)
  where
    go : (b : Bool) → t e ≡ b → All (λ e. not (t e)) (remaining t es) → All (λ e. not (t e)) (cond b (remaining t es) (e ∷ remaining t es))
    go true z r = r
    go false z r = (rw z, r)
