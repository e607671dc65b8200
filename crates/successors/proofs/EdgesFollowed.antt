-- The branches of a step by an edge: which part of its definition a test of the code chooses.
use Prim.Native.Nat.{ℕ, ◌≤◌, ◌<◌}
use mathlib.Core.Path.{◌≡◌}
use mathlib.Core.Bool.{true, false}
use mathlib.Core.List.{List}
use lib.ListN.{get_or}
use borrow.Author.Tests.{lt-ltb, le-ltb}
use Rattle.automaton.specs.NextStates.{set_at}
use Rattle.index.specs.Index.{leaves}
use Rattle.program.specs.Sizes.{max_routines}
use Rattle.program.specs.Program.{is_call, called_by}
use Rattle.program.specs.Decoded.{edge_of}
use Rattle.reach.specs.Configurations.{number}
use Rattle.reach.specs.Worklist.{Worklist}
use Rattle.marking.specs.Parts.{Becomes, each, mark_state}
use Rattle.successors.specs.Parts.{move_step, call_step, label_step, edge_step}
use Rattle.program.specs.declared.sizes.Sizes.{Sizes}

-- the set of a look is marked: the state that was asked for is x
pub move_from : (states : ℕ) (next : List ℕ) (base l : ℕ) {x y set : ℕ} {m w m' w' : List ℕ} → set ≡ set_at next y l → y ≡ x
    → Becomes (each (mark_state set base) states 0) m w m' w' → Becomes (move_step states next base x l) m w m' w'
move_from states next base l e h b = rw (e, h) at b

module _ (Z : Sizes) where
  module _ (next known : List ℕ) (base q label : ℕ) {m w : List ℕ} where
    pub label_call : {m' w' : List ℕ} → is_call label ≡ true → called_by label < max_routines
        → Becomes (call_step Z next known base (called_by label) q) m w m' w' → Becomes (label_step Z next known base q label) m w m' w'
    unfolding label_step
    label_call e h b = record { becomes = λ k n. rw (e, lt-ltb (called_by label) max_routines h) (b.becomes k n) }

    pub label_past : is_call label ≡ true → max_routines ≤ called_by label → Becomes (label_step Z next known base q label) m w m w
    unfolding label_step
    label_past e h = record { becomes = λ k n. rw (e, le-ltb (called_by label) max_routines h) }

    pub label_action : {m' w' : List ℕ} → is_call label ≡ false → Becomes (move_step Z.states next base q label) m w m' w'
        → Becomes (label_step Z next known base q label) m w m' w'
    unfolding label_step
    label_action e b = record { becomes = λ k n. rw e (b.becomes k n) }

  -- an edge that the index has for the node, and one that it passes over
  module _ (next known : List ℕ) (f n r q : ℕ) (keys : List ℕ) (i : ℕ) where
    pub edge_here : {m w m' w' : List ℕ} → leaves keys f n i ≡ true
        → Becomes (label_step Z next known (number Z f (edge_of (get_or keys i 0)).target r 0) q (edge_of (get_or keys i 0)).label) m w m' w'
        → Becomes (edge_step Z next known f n r q (edge_of (get_or keys i 0))) m w m' w'
    unfolding edge_step
    edge_here t b = record { becomes = λ k c. rw t (b.becomes k c) }

    pub edge_other : leaves keys f n i ≡ false → (s : Worklist) → edge_step Z next known f n r q (edge_of (get_or keys i 0)) s ≡ s
    unfolding edge_step
    edge_other t s = rw t
