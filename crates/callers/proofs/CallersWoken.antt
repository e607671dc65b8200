-- What an edge wakes: which part of its definition a test of the code chooses.
use Prim.Native.Nat.{ℕ}
use mathlib.Core.Path.{◌≡◌}
use mathlib.Core.Bool.{true, false}
use mathlib.Core.List.{List}
use lib.ListN.{get_or}
use Rattle.index.specs.Index.{calls_one}
use Rattle.program.specs.Decoded.{edge_of}
use Rattle.reach.specs.Worklist.{Worklist}
use Rattle.marking.specs.Parts.{Becomes, each}
use Rattle.callers.specs.Parts.{state_step, caller_step}
use Rattle.program.specs.declared.sizes.Sizes.{Sizes}

module _ (Z : Sizes) where
  -- an edge that the index has for the routine, and one that it passes over
  module _ (next : List ℕ) (f r : ℕ) (keys : List ℕ) (i : ℕ) where
    pub caller_here : {m w m' w' : List ℕ} → calls_one keys f i ≡ true
        → Becomes (each (state_step Z next r (edge_of (get_or keys i 0))) Z.states 0) m w m' w'
        → Becomes (caller_step Z next f r (edge_of (get_or keys i 0))) m w m' w'
    unfolding caller_step
    caller_here t b = record { becomes = λ k c. rw t (b.becomes k c) }

    pub caller_other : calls_one keys f i ≡ false → (s : Worklist) → caller_step Z next f r (edge_of (get_or keys i 0)) s ≡ s
    unfolding caller_step
    caller_other t s = rw t
