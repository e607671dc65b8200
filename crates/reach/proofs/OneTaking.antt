-- What one iteration does, at an exit and elsewhere.
use mathlib.Core.Path.{◌≡◌, refl}
use mathlib.Core.Logic.{◌≢◌}
use Prim.Native.Nat.{ℕ}
use borrow.Author.Tests.{eq-eqb, ne_eqb}
use Rattle.program.specs.Program.{Program}
use Rattle.reach.specs.Configurations.{routine_of, node_of, root_of, state_of}
use Rattle.reach.specs.Runs.{steps_of}
use Rattle.reach.specs.Worklist.{Worklist, Shape, learn, take_from, take_one}
use Rattle.reach.proofs.Numbers.{root_small}
use Rattle.reach.proofs.ShapeKept.{taking, taking_shape, learn_shape}
use Rattle.reach.proofs.EdgesMark.{Marks, ByStep, on-steps}
use Rattle.reach.proofs.SummariesWake.{Wakes, Caller, wake-callers}
use Rattle.program.specs.declared.sizes.Sizes.{Sizes}
use Rattle.reach.specs.Configurations.{Usable}
use Rattle.reach.specs.Ranged.{Ranged}

module _ (Z : Sizes) (U : Usable Z) where
  -- what the taking of number i marks
  abbrev pub Marking : Program → ℕ → Worklist → Worklist → Type 0
  Marking p i s t = Marks (ByStep Z U p s.known (steps_of p) (routine_of Z i) (node_of Z i) (root_of Z i) (state_of Z i)) (taking i s) t

  -- what the taking of number i, an exit, wakes
  abbrev pub Waking : Program → ℕ → Worklist → Worklist → Type 0
  Waking p i s t = Wakes (Caller Z U p (steps_of p) (routine_of Z i) (root_of Z i)) (learn Z (routine_of Z i) (root_of Z i) (state_of Z i) (taking i s)) t

  module _ (p : Program) (z : Ranged Z p) (i : ℕ) (s : Worklist) (shape : Shape Z s) where
    pub take_elsewhere : node_of Z i ≢ 1 → Marking p i s (take_one Z p i s)
    unfolding take_one take_from
    take_elsewhere ne =
        rw (ne_eqb (node_of Z i) 1 ne)
        (on-steps Z U p (steps_of p) (routine_of Z i) (node_of Z i) (root_of Z i) (state_of Z i) (taking i s) s.known refl z (λ x y. y) (root_small Z U i)
        (taking_shape Z U i s shape))

    pub take_exit : node_of Z i ≡ 1 → Waking p i s (take_one Z p i s)
    unfolding take_one take_from
    take_exit e =
        rw (eq-eqb (node_of Z i) 1 e)
        (wake-callers Z U p (steps_of p) (routine_of Z i) (root_of Z i) (learn Z (routine_of Z i) (root_of Z i) (state_of Z i) (taking i s)) z (λ x y. y)
        (learn_shape Z U (routine_of Z i) (root_of Z i) (state_of Z i) (taking i s) (taking_shape Z U i s shape)))
