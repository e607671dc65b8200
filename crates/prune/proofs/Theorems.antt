-- The keeping of what no longer has support gives the fresh marks: a drop needs nothing more.
use mathlib.Core.Path.{◌≡◌}
use mathlib.Core.List.{List}
use Prim.Native.Nat.{ℕ}
use native.Mathlib.Omega.{arith}
use Rattle.program.specs.Program.{Program}
use Rattle.program.specs.declared.sizes.Sizes.{Sizes}
use Rattle.reach.specs.Reachable.{Initial, Any, Reachable}
use Rattle.reach.specs.Marks.{Marked, Shows, fresh_at}
use Rattle.reach.proofs.LeastSetLaws.{Within, grows, keeping}
use Rattle.reach.specs.Configurations.{Sub, Usable}
use Rattle.reach.specs.Ranged.{Ranged}
use Rattle.reach.proofs.ProgramInSizes.{reachable_in_range}
use Rattle.reach.proofs.MarksShown.{shows_same, one_list, reachable_shown}
use Rattle.prune.specs.Pruning.{Kept}

module _ (Z : Sizes) (U : Usable Z) where
  -- on marks that have everything reachable, what is kept is the fresh marks
  pub kept_reachable : (p : Program) → Ranged Z p → (marks new : List ℕ) → Sub (Reachable p) (Marked Z marks) → Shows Z (Kept Z p marks) new → new ≡ fresh_at Z p
  kept_reachable p w marks new all s =
      let itself : Within p p = record { steps = λ h. h; moves = λ q e s h. h } in
      let same : Sub (Initial p) (Initial p) = record { at = λ x. x } in
      let wide : Sub (Marked Z marks) Any = record { at = λ x. tt } in
      one_list Z U (shows_same Z U (record { at = λ d. grows itself same wide d }) (record { at = λ d. keeping all d }) s) (reachable_shown Z U p w)

  -- the fresh marks of a program with more steps are such
  pub kept_fresh : (p p' : Program) → Ranged Z p → Ranged Z p' → Within p p' → Sub (Initial p) (Initial p') → (new : List ℕ)
      → Shows Z (Kept Z p (fresh_at Z p')) new → new ≡ fresh_at Z p
  kept_fresh p p' w w' i s new shows = kept_reachable p w (fresh_at Z p') new (record { at = λ d. marked d }) shows
    where
      marked : {f n r q : ℕ} → Reachable p f n r q → Marked Z (fresh_at Z p') f n r q
      marked d =
          let any : Sub Any Any = record { at = λ x. x } in
          let d' = grows i s any d in
          let h = reachable_in_range Z U p' w' d' in
          let e = ((reachable_shown Z U p' w').shown h).1 d' in
          (h, λ z. omega arith)
