-- A step after a mark, and a step by a test of the code.
use Prim.Native.Nat.{ℕ}
use mathlib.Core.Path.{◌≡◌, ap, ◌∙◌}
use mathlib.Core.Bool.{Bool, true, false, cond}
use mathlib.Core.List.{List}
use Rattle.reach.specs.Worklist.{Worklist, mark}
use Rattle.marking.specs.Parts.{Becomes}

-- number j is marked, and a step follows
pub mark_then : {at j : ℕ} {g : Worklist → Worklist} {m w m₁ w₁ m₂ w₂ : List ℕ} → at ≡ j → Becomes (mark at) m w m₁ w₁ → Becomes g m₁ w₁ m₂ w₂
    → Becomes (λ s. g (mark j s)) m w m₂ w₂
mark_then {g = g} e b d = record { becomes = λ k n. d.becomes k n ∙ ap g (rw e at (b.becomes k n)) }

-- a step by a test
module _ {b : Bool} (g : Worklist → Worklist) {m w : List ℕ} where
  pub step_taken : {m' w' : List ℕ} → b ≡ true → Becomes g m w m' w' → Becomes (λ s. cond b (g s) s) m w m' w'
  step_taken t d = record { becomes = λ k n. rw t (d.becomes k n) }

  pub step_left : b ≡ false → Becomes (λ s. cond b (g s) s) m w m w
  step_left t = record { becomes = λ k n. rw t }
