-- An exit whose summary is known is not pending, so it is never taken again.
use mathlib.Core.Path.{◌≡◌, sym, ◌∙◌}
use mathlib.Core.Logic.{inl, inr}
use Prim.Native.Nat.{ℕ, ◌<◌}
use native.Mathlib.Omega.{arith}
use native.Mathlib.Decide.{ℕ_discrete}
use lib.ListN.{set}
use Rattle.program.specs.Program.{Program}
use Rattle.reach.specs.Configurations.{Set, number, node_of, root_of, state_of, routine_of}
use Rattle.reach.specs.Worklist.{Worklist, summary, learn, take_one, opened, blank}
use Rattle.reach.proofs.Numbers.{node-of, exit_number}
use Rattle.base.specs.Flags.{On}
use Rattle.base.proofs.SetFlags.{set_inv, clear_off, clear_inv, none_on}
use Rattle.reach.proofs.ShapeKept.{blank_shape}
use Rattle.reach.proofs.EdgesMark.{on_opened}
use Rattle.reach.proofs.SummariesWake.{caller_node}
use Rattle.reach.proofs.OneTaking.{Marking, Waking, take_elsewhere, take_exit}
use Rattle.reach.proofs.WorklistInvariant.{Follows}
use Rattle.program.specs.declared.sizes.Sizes.{Sizes}
use Rattle.reach.specs.Sizes.{summaries}
use Rattle.reach.specs.Configurations.{Usable}
use Rattle.reach.specs.Ranged.{Ranged}

module _ (Z : Sizes) (U : Usable Z) where
  pub record Settled (s : Worklist) : Type 0 where
    pub not_pending : (g r q : ℕ) → g < Z.routines → r < Z.states → q < Z.states → On s.known (summary Z g r q) → ¬ (On s.pending (number Z g 1 r q))

  module _ (p : Program) (S : Set) (z : Ranged Z p) (i : ℕ) (s : Worklist) (v : Follows Z U p S s) (w : Settled s) (hi : On s.pending i) where
    elsewhere : (t : Worklist) → Marking Z U p i s t → Settled t
    elsewhere t k =
        record {
          not_pending = λ g r q hg hr hq o.
              let known = rw k.known at o in
              λ x. elim (k.waits x) [
                | inl y ↦ w.not_pending g r q hg hr hq known (clear_inv s.pending i (number Z g 1 r q) y)
                | inr y ↦ y.1 (v.known g r q hg hr hq known)
              ];
        }

    at_exit : (t : Worklist) → node_of Z i ≡ 1 → Waking Z U p i s t → Settled t
    unfolding learn
    at_exit t is-exit k =
        record {
          not_pending = λ g r q hg hr hq o x.
              let y = exit_waits (number Z g 1 r q) (node-of (record { routine = hg; node = omega arith; root = hr; state = hq })) x in
              elim (set_inv s.known (summary Z (routine_of Z i) (root_of Z i) (state_of Z i)) (summary Z g r q) (rw k.known at o)) [
                | inl e ↦ clear_off s.pending i (rw (exit_number Z U i g r q is-exit hr hq e) at y)
                | inr known ↦ w.not_pending g r q hg hr hq known (clear_inv s.pending i (number Z g 1 r q) y)
              ];
        }
      where
        -- no exit is woken
        exit_waits : (j : ℕ) → node_of Z j ≡ 1 → On t.pending j → On (set s.pending i 0) j
        exit_waits j e o =
            elim (k.waits o) [
              | inl x ↦ x
              | inr x ↦ absurd (z.no_exit x.0.member (sym (caller_node Z U z x.0) ∙ e))
            ]

    pub take_settled : Settled (take_one Z p i s)
    take_settled =
        elim (ℕ_discrete (node_of Z i) 1) [
          | yes e ↦ at_exit (take_one Z p i s) e (take_exit Z U p z i s v.shape e)
          | no ne ↦ elsewhere (take_one Z p i s) (take_elsewhere Z U p z i s v.shape ne)
        ]

  -- nothing is known at the start
  pub opened_settled : (p : Program) → Ranged Z p → Settled (opened Z p.automaton.initial (blank Z))
  opened_settled p z =
      record {
        not_pending = λ g r q hg hr hq o.
            let k = on_opened Z U p.automaton.initial (blank Z) z.main (λ q m. let b = z.begun m in let c = z.states in omega arith) (blank_shape Z U) in
            none_on (summaries Z) (rw k.known at o);
      }
