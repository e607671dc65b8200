-- The loop, for code that runs it: from here, the iterations that are left give the result; and what a limit on them means.
use mathlib.Core.Path.{◌≡◌, refl, sym, ◌∙◌}
use mathlib.Core.Logic.{◌≢◌}
use mathlib.Core.Option.{Option, none, some, none-ne-some}
use Prim.Native.Nat.{ℕ, zero, suc, ◌+◌, ◌≤◌, ◌<◌}
use native.Mathlib.Omega.{arith}
use Rattle.program.specs.Program.{Program}
use Rattle.reach.specs.Worklist.{Worklist, Shape, lowest, take_one, work, opened, blank, analysis_at}
use Rattle.reach.proofs.ShapeKept.{take_shape, take_iterations, opened_iterations, work_step, work_done}
use Rattle.reach.proofs.TakingsBounded.{analysis_ends}
use Rattle.program.specs.declared.sizes.Sizes.{Sizes}
use Rattle.reach.specs.Sizes.{enough_iterations}
use Rattle.reach.specs.Configurations.{Usable}
use Rattle.reach.specs.Ranged.{Ranged}

-- t is what the loop ends with, and s what it has after k iterations at most: these are enough, or something is pending still
pub data Stopped (k : ℕ) (t s : Worklist) : Type 0 where
  enough : t.iterations ≤ k → s ≡ t → Stopped k t s
  too_few : k < t.iterations → lowest s.pending 0 ≢ none → Stopped k t s

module _ (Z : Sizes) (U : Usable Z) where
  -- s is on the way to what k iterations give, t
  pub record Running (p : Program) (k : ℕ) (t s : Worklist) : Type 0 where
    pub shape : Shape Z s
    pub left : ℕ
    pub counted : left + s.iterations ≡ k
    pub gives : work Z left p (lowest s.pending 0) s ≡ t

  pub running_from : (p : Program) (k : ℕ) (s : Worklist) → Shape Z s → s.iterations ≡ 0 → Running p k (work Z k p (lowest s.pending 0) s) s
  running_from p k s z e = record { shape = z; left = k; counted = omega arith; gives = refl }

  module _ {p : Program} {k : ℕ} {t s : Worklist} (v : Running p k t s) where
    -- nothing is pending: this is the result
    pub running_end : lowest s.pending 0 ≡ none → s ≡ t
    running_end e = sym (work_done Z U v.left p s e) ∙ v.gives

    -- so many iterations were made: this is the result
    pub running_spent : k ≤ s.iterations → s ≡ t
    unfolding work
    running_spent h = go v.left v.counted v.gives
      where
        go : (left : ℕ) → left + s.iterations ≡ k → work Z left p (lowest s.pending 0) s ≡ t → s ≡ t
        go zero c g = g
        go (suc left) c g = absurd (omega arith)

    -- some number is pending, and there are iterations left
    pub running_turn : (i : ℕ) → lowest s.pending 0 ≡ some i → s.iterations < k → Running p k t (take_one Z p i s)
    running_turn i e h = go v.left v.counted v.gives
      where
        go : (left : ℕ) → left + s.iterations ≡ k → work Z left p (lowest s.pending 0) s ≡ t → Running p k t (take_one Z p i s)
        go zero c g = absurd (omega arith)
        go (suc left) c g =
            record {
              shape = take_shape Z U p i s v.shape;
              left = left;
              counted = omega (arith, take_iterations Z U p i s);
              gives = sym (work_step Z U left p i s e) ∙ g;
            }

  -- ---- a limit

  work_counts : (k : ℕ) (p : Program) (o : Option ℕ) (s : Worklist) → s.iterations ≤ (work Z k p o s).iterations
  unfolding work
  work_counts zero p o s = omega arith
  work_counts (suc k) p none s = omega arith
  work_counts (suc k) p (some i) s = omega (arith, work_counts k p (lowest (take_one Z p i s).pending 0) (take_one Z p i s), take_iterations Z U p i s)

  work_none : (k : ℕ) (p : Program) (s : Worklist) → work Z k p none s ≡ s
  unfolding work
  work_none zero p s = refl
  work_none (suc k) p s = refl

  -- t as the result of n iterations, with which the loop ends
  stopped : (n k c : ℕ) (p : Program) (o : Option ℕ) (s : Worklist) → lowest s.pending 0 ≡ o → c ≡ k + s.iterations
      → lowest (work Z n p o s).pending 0 ≡ none → Stopped c (work Z n p o s) (work Z k p o s)
  unfolding work
  stopped zero k c p none s e h x = rw (work_none k p s) (enough (omega arith) refl)
  stopped zero k c p (some i) s e h x = absurd (none-ne-some i (sym x ∙ e))
  stopped (suc n) k c p none s e h x = rw (work_none k p s) (enough (omega arith) refl)
  stopped (suc n) zero c p (some i) s e h x =
      too_few (omega (arith, work_counts n p (lowest (take_one Z p i s).pending 0) (take_one Z p i s), take_iterations Z U p i s)) (λ z. none-ne-some i (sym z ∙ e))
  stopped (suc n) (suc k) c p (some i) s e h x =
      stopped n k c p (lowest (take_one Z p i s).pending 0) (take_one Z p i s) refl (omega (arith, take_iterations Z U p i s)) x

  -- the analysis, by so many iterations at most
  pub analysis_stopped : (p : Program) → Ranged Z p → (limit : ℕ)
      → let s = opened Z p.automaton.initial (blank Z) in Stopped limit (analysis_at Z p) (work Z limit p (lowest s.pending 0) s)
  unfolding analysis_at
  analysis_stopped p wf limit =
      let s = opened Z p.automaton.initial (blank Z) in
      stopped (enough_iterations Z) limit limit p (lowest s.pending 0) s refl (omega (arith, opened_iterations Z U p.automaton.initial)) (analysis_ends Z U p wf)
