-- The edges of every routine but one.
use mathlib.Core.Path.{◌≡◌, refl, sym, ◌∙◌}
use mathlib.Core.Bool.{Bool, true, false, ◌&&◌, not}
use mathlib.Core.List.{List, [], ◌∷◌, map}
use Prim.Native.Nat.{ℕ, ◌+◌, ◌≤◌, ◌<◌}
use native.Mathlib.Omega.{arith}
use lib.Dec.{ltb, leb, eqb}
use borrow.Author.Tests.{ltb-true, ltb-false, leb-true, leb-false, eq-eqb, ne_eqb}
use Rattle.tables.specs.Keys.{between, without_between}
use Rattle.program.specs.Program.{Edge}
use Rattle.program.specs.Decoded.{edge_of}
use Rattle.program.specs.WellFormed.{All}
use Rattle.edit.proofs.EdgesRemaining.{remaining, none_remaining}
use Rattle.edit.proofs.KeysOfEdges.{edges_between}
use Rattle.exchange.specs.Changing.{others}

-- an edge of this routine
abbrev pub own : ℕ → Edge → Bool
own f e = eqb e.routine f

pub others_remaining : (f : ℕ) (es : List Edge) → others f es ≡ remaining (own f) es
unfolding others remaining
others_remaining f [] = refl
others_remaining f (e ∷ es) = rw (others_remaining f es)

pub none_own : (f : ℕ) (es : List Edge) → All (λ e. not (own f e)) (others f es)
none_own f es = rw (others_remaining f es) (none_remaining (own f) es)

-- the keys from this one on are those of routine f and of the routines above it
abbrev pub Begins : ℕ → ℕ → Type 0
Begins low f = (k : ℕ) → (k < low → (edge_of k).routine < f) × (low ≤ k → f ≤ (edge_of k).routine)

module _ (low high f : ℕ) (begins : Begins low f) (ends : Begins high (f + 1)) where
  between_own : (k : ℕ) → between low high k ≡ own f (edge_of k)
  between_own k = go (leb low k) (ltb k high) refl refl
    where
      go : (a b : Bool) → leb low k ≡ a → ltb k high ≡ b → a && b ≡ own f (edge_of k)
      go true true x y =
          let g = (begins k).1 (leb-true low k x) in
          let h = (ends k).0 (ltb-true k high y) in
          sym (eq-eqb (edge_of k).routine f (omega arith))
      go true false x y = let h = (ends k).1 (ltb-false k high y) in sym (ne_eqb (edge_of k).routine f (λ e. omega arith))
      go false b x y = let h = (begins k).0 (leb-false low k x) in sym (ne_eqb (edge_of k).routine f (λ e. omega arith))

  pub others_keys : (ks : List ℕ) → map edge_of (without_between low high ks) ≡ others f (map edge_of ks)
  others_keys ks = edges_between low high (own f) between_own ks ∙ sym (others_remaining f (map edge_of ks))
