-- One iteration of the code is one of the defined procedure.
use Prim.Native.Nat.{ℕ, zero, suc, ◌+◌, ◌<◌}
use mathlib.Core.Path.{◌≡◌, refl, ◌∙◌}
use mathlib.Core.Bool.{true, ◌&&◌}
use mathlib.Core.List.{List, [], ◌∷◌, map}
use native.Mathlib.Omega.{arith}
use native.Mathlib.Decide.{ℕ_discrete}
use lib.Dec.{ltb}
use lib.ListN.{length, get_or, set, take, get_or-map, length-map}
use lib.Seq.{get_or-set_other}
use borrow.Author.Tests.{eq-eqb, ne_eqb}
use Rattle.program.specs.Program.{Program, edge_fits, placed}
use Rattle.automaton.specs.Automaton.{label_fits}
use Rattle.program.specs.Decoded.{edge_of}
use Rattle.base.proofs.Bools.{both}
use Rattle.program.proofs.SectionsAscend.{all_at}
use Rattle.reach.specs.Configurations.{PartsOf}
use Rattle.reach.specs.Worklist.{summary, learn, take_from, take_one}
use Rattle.reach.proofs.Numbers.{parts_routine, parts_node, parts_root, parts_state}
use Rattle.words.specs.Words.{flags_of, NoneBelow}
use Rattle.words.proofs.FlagsOfPart.{take_set}
use Rattle.reach.specs.Sizes.{summaries}
use Rattle.marking.specs.Parts.{worklist, Becomes, each}
use Rattle.successors.specs.Parts.{edge_step}
use Rattle.callers.specs.Parts.{caller_step}
use Rattle.iteration.specs.Parts.{Tables}
use Rattle.iteration.proofs.StepsOfProcedure.{edges_is, callers_is}
use Rattle.program.specs.declared.sizes.Sizes.{Sizes}

cleared : (w : List ℕ) (i : ℕ) → ◌≡◌ {A = ℕ} (get_or (set w i 0) i 0) 0
cleared [] i = refl
cleared (x ∷ w) zero = refl
cleared (x ∷ w) (suc i) = cleared w i

-- the lowest one was taken
pub past_lowest : (w : List ℕ) (i : ℕ) → NoneBelow w i → NoneBelow (set w i 0) (i + 1)
past_lowest w i h =
    record {
      none_below = λ j l. elim (ℕ_discrete j i) [
        | yes e ↦ rw e (cleared w i)
        | no e ↦ get_or-set_other w i j 0 0 e ∙ h.none_below j (omega arith)
      ];
    }

module _ (Z : Sizes) where
  -- ---- the labels of a well-formed program

  label-fits : (p : Program) (keys index next : List ℕ) → Tables Z p keys index next → (i : ℕ) → i < length keys
      → label_fits p.routines p.automaton.actions (edge_of (get_or keys i 0)).label ≡ true
  label-fits p keys index next t i h =
      let e = edge_of (get_or keys i 0) in
      let a = rw t.edges at t.well_formed.edges_fit in
      let x = rw (get_or-map edge_of keys i 0) at (all_at (edge_fits p) (map edge_of keys) i (edge_of 0) a (omega (arith, length-map keys edge_of))) in
      (both (ltb e.routine p.routines && placed (get_or p.nodes e.routine 0) e.source e.target) _ x).1

  -- ---- the configuration that is taken

  module _ (keys index next m w k : List ℕ) (i : ℕ) {f o r q : ℕ} (x : PartsOf Z i f o r q) {w₁ : List ℕ} (c : flags_of w₁ ≡ set (flags_of w) i 0) where
    pub at_exit : {w' : List ℕ} (k' : List ℕ) → o ≡ 1 → flags_of k' ≡ set (flags_of k) (summary Z f r q) 1
        → Becomes (each (λ j. caller_step Z next f r (edge_of (get_or keys j 0))) (length keys) 0) m w₁ m w'
        → (p : Program) → Tables Z p keys index next → (n : ℕ) → worklist Z m w' k' (n + 1) ≡ take_one Z p i (worklist Z m w k n)
    unfolding take_one take_from learn
    at_exit k' e d b p t n =
        b.becomes (take (summaries Z) (flags_of k')) (n + 1)
        ∙ callers_is Z p next t.well_formed t.answers f r keys (label-fits p keys index next t) (length keys) 0 (omega arith) _
        ∙ rw (c, d, take_set (length m) (flags_of w) i 0, take_set (summaries Z) (flags_of k) (summary Z f r q) 1, ← parts_routine x, ← parts_node x, ← parts_root x, ← parts_state x, eq-eqb o 1 e, t.edges)

    pub elsewhere : {m' w' : List ℕ} → (o ≡ 1 → ⊥)
        → Becomes (each (λ j. edge_step Z next k f o r q (edge_of (get_or keys j 0))) (length keys) 0) m w₁ m' w'
        → (p : Program) → Tables Z p keys index next → (n : ℕ) → worklist Z m' w' k (n + 1) ≡ take_one Z p i (worklist Z m w k n)
    unfolding take_one take_from
    elsewhere e b p t n =
        b.becomes (take (summaries Z) (flags_of k)) (n + 1)
        ∙ edges_is Z p next k t.well_formed t.ranged t.answers q f o r keys (label-fits p keys index next t) (length keys) 0 (omega arith) _ refl
        ∙ rw (c, take_set (length m) (flags_of w) i 0, ← parts_routine x, ← parts_node x, ← parts_root x, ← parts_state x, ne_eqb o 1 e, t.edges)
