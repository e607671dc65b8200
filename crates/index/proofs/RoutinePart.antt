-- The edges of one routine are a part of the table of edges, since the table ascends.
use Prim.Native.Nat.{ℕ, zero, suc, min, ◌+◌, ◌-◌, ◌≤◌, ◌<◌}
use mathlib.Core.Path.{◌≡◌, sym, ap}
use mathlib.Core.Logic.{◌≢◌}
use mathlib.Core.List.{List, [], ◌∷◌, map}
use native.Mathlib.Omega.{arith}
use native.Mathlib.Decide.{ℕ_discrete}
use lib.ListN.{length, get_or, take}
use Rattle.program.specs.Sizes.{max_edges}
use Rattle.program.specs.Frames.{edge_key}
use Rattle.tables.specs.Keys.{Ascending}
use Rattle.program.specs.Decoded.{edge_of, program_of}
use Rattle.program.specs.declared.DecodedProgram.{DecodedProgram}
use Rattle.index.specs.Part.{FirstOf}
use Rattle.base.proofs.EntriesInUse.{in_use_same}

abbrev pub routine_at : List ℕ → ℕ → ℕ
routine_at ks i = (edge_of (get_or ks i 0)).routine

-- ---- routines ascend

above : (low : ℕ) (ks : List ℕ) → Ascending low (map edge_key (map edge_of ks)) → (j : ℕ) → j < length ks → low < edge_key (edge_of (get_or ks j 0))
unfolding Ascending
above low [] a j h = absurd (omega arith)
above low (k ∷ ks) a zero h = a.0
above low (k ∷ ks) a (suc j) h = let x = above (edge_key (edge_of k)) ks a.1 j (omega arith) in omega (arith, a.0)

key_routine : (k l : ℕ) → edge_key (edge_of k) < edge_key (edge_of l) → (edge_of k).routine ≤ (edge_of l).routine
key_routine k l h = omega arith

rising : (low : ℕ) (ks : List ℕ) → Ascending low (map edge_key (map edge_of ks)) → (i j : ℕ) → i ≤ j → j < length ks → routine_at ks i ≤ routine_at ks j
unfolding Ascending
rising low [] a i j l h = absurd (omega arith)
rising low (k ∷ ks) a zero zero l h = omega arith
rising low (k ∷ ks) a zero (suc j) l h = key_routine k (get_or ks j 0) (above (edge_key (edge_of k)) ks a.1 j (omega arith))
rising low (k ∷ ks) a (suc i) zero l h = absurd (omega arith)
rising low (k ∷ ks) a (suc i) (suc j) l h = rising (edge_key (edge_of k)) ks a.1 i j (omega arith) (omega arith)

-- ---- of the keys in use

-- the keys in use are the edges of the program
pub table_edges : (d : DecodedProgram) → length d.edges.keys ≡ max_edges → {u : ℕ} → u ≡ min d.edges.count max_edges
    → (program_of d).edges ≡ map edge_of (take u d.edges.keys)
table_edges d room e = ap (map edge_of) (sym (in_use_same d.edges.count d.edges.keys room e))

-- the part from where the routines not below f begin to where those not below f + 1 do
module _ {ks : List ℕ} {f a b : ℕ} (x : FirstOf ks (length ks) f a) (y : FirstOf ks (length ks) (f + 1) b) where
  pub part_starts : a ≤ b
  part_starts =
      elim (ℕ_discrete (a - b) 0) [
        | yes e ↦ omega arith
        | no e ↦ absurd (omega (arith, x.below b (omega arith), y.not-below (omega (arith, x.within))))
      ]

  pub before_part : (j : ℕ) → j < a → routine_at ks j ≢ f
  before_part j h = λ e. omega (arith, x.below j h)

  module _ (up : Ascending 0 (map edge_key (map edge_of ks))) where
    pub in_part : (j : ℕ) → a ≤ j → j < b → routine_at ks j ≡ f
    in_part j l h =
        let k : j < length ks = omega (arith, y.within) in
        omega (arith, y.below j h, x.not-below (omega arith), rising 0 ks up a j l k)

    pub after_part : (j : ℕ) → b ≤ j → j < length ks → routine_at ks j ≢ f
    after_part j l h = λ e. omega (arith, y.not-below (omega arith), rising 0 ks up b j l h)
