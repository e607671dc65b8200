-- Following from marks that are closed but for some numbers: with the marked exits known and the other marked configurations of
-- these numbers pending, what is marked at the end is exactly what follows from the marks.
use mathlib.Core.Path.{◌≡◌, refl, sym, subst}
use mathlib.Core.Logic.{inl, inr, ◌≢◌}
use Prim.Native.Nat.{ℕ, ◌-◌, ◌<◌}
use native.Mathlib.Omega.{arith}
use native.Mathlib.Decide.{ℕ_discrete}
use Rattle.program.specs.Program.{Program}
use Rattle.reach.specs.Configurations.{number, routine_of, node_of, root_of, state_of, At}
use Rattle.reach.specs.Reachable.{Derivable, seeded, Any}
use Rattle.reach.specs.Worklist.{Worklist, Shape, lowest, summary, work}
use Rattle.reach.specs.Marks.{Marked, Shows, Between, ClosedBut}
use Rattle.reach.proofs.Numbers.{number-of, node-of, parts_in_range}
use Rattle.reach.proofs.ProgramInSizes.{after_small, Proper}
use Rattle.base.specs.Flags.{On}
use Rattle.base.proofs.SetFlags.{on_lt}
use Rattle.reach.proofs.ShapeKept.{work_shape}
use Rattle.reach.proofs.WorklistInvariant.{Closed, Follows}
use Rattle.reach.proofs.ExitsSettled.{Settled}
use Rattle.reach.proofs.AnalysisExact.{follow_exact_ended}
use Rattle.reach.proofs.MarksShown.{shows_marked}
use Rattle.program.specs.declared.sizes.Sizes.{Sizes}
use Rattle.program.specs.Chosen.{numbers}
use Rattle.reach.specs.Sizes.{enough_iterations}
use Rattle.reach.specs.Configurations.{Usable}
use Rattle.reach.specs.Ranged.{Ranged}

dec_between : (low high j : ℕ) → Dec (Between low high j)
dec_between low high j =
    elim (ℕ_discrete (low - j) 0) [
      | no a ↦ no (λ x. a (omega (arith, x.0)))
      | yes a ↦ elim (ℕ_discrete (high - j) 0) [ yes b ↦ no (λ x. omega (arith, x.1)) | no b ↦ yes (omega arith, omega arith) ]
    ]

module _ (Z : Sizes) (U : Usable Z) where
  -- the marked configurations of these numbers that are no exits are pending, no others, and the summaries of the marked exits are
  -- known
  pub record Awaits (low high : ℕ) (s : Worklist) : Type 0 where
    pub shape : Shape Z s
    pub woken : {j : ℕ} → On s.marks j → Between low high j → node_of Z j ≢ 1 → On s.pending j
    pub waits : {j : ℕ} → On s.pending j → On s.marks j × (node_of Z j ≢ 1)
    pub learnt : (g r q : ℕ) → g < Z.routines → r < Z.states → q < Z.states → On s.marks (number Z g 1 r q) → On s.known (summary Z g r q)
    pub known : (g r q : ℕ) → g < Z.routines → r < Z.states → q < Z.states → On s.known (summary Z g r q) → On s.marks (number Z g 1 r q)

  module _ (p : Program) (w : Ranged Z p) (low high : ℕ) (s : Worklist) (h : ClosedBut Z p low high s.marks) (k : Awaits low high s) where
    proper : Proper Z p (Marked Z s.marks)
    proper = record { in_range = λ x. x.0; state = λ x. h.states x }

    marked_at : {j : ℕ} → On s.marks j → At Z (Marked Z s.marks) j
    marked_at {j} o =
        let b : j < numbers Z = omega (arith, h.marks-length, on_lt s.marks j o) in
        (parts_in_range Z U j b, (subst (On s.marks) (sym (number-of Z j)) o).on)

    -- ---- what is not pending has led to all that follows from it

    -- the summary of an exit is known
    at_exit : {j : ℕ} → On s.marks j → node_of Z j ≡ 1 → On s.known (summary Z (routine_of Z j) (root_of Z j) (state_of Z j))
    at_exit {j} o e =
        let x = (marked_at o).0 in
        k.learnt (routine_of Z j) (root_of Z j) (state_of Z j) x.routine x.root x.state
        (subst (λ (n : ℕ). On s.marks (number Z (routine_of Z j) n (root_of Z j) (state_of Z j))) e (subst (On s.marks) (sym (number-of Z j)) o))

    -- no edge leads from an exit
    exit_done : {j : ℕ} → On s.marks j → node_of Z j ≡ 1 → At Z (Closed Z U p s) j
    exit_done o e =
        let z = w in
        record {
          exit = at_exit o;
          acts = λ x y v. absurd (z.no_exit y e);
          calls = λ x y v. absurd (z.no_exit y e);
          returns = λ r x t hx y v o v'. absurd (z.no_exit y e);
        }

    -- outside the numbers what follows is marked
    outside_done : {j : ℕ} → On s.marks j → ¬ (Between low high j) → At Z (Closed Z U p s) j
    outside_done {j} o ne =
        let c = h.closed (marked_at o) (subst (λ (i : ℕ). ¬ (Between low high i)) (sym (number-of Z j)) ne) in
        record {
          exit = at_exit o;
          acts = λ x e v. record { on = (c.acts e v).1 };
          calls = λ x e v. record { on = (c.calls e v).1 };
          returns = λ {g = g} r x t hx e v o v'.
              let z = w in
              let hg = z.called e in
              let hr = after_small z _ _ _ v in
              let y : Marked Z s.marks g 1 r x = (record { routine = hg; node = omega arith; root = hr; state = hx }, (k.known g r x hg hr hx o).on) in
              record { on = (c.returns e v y v').1 };
        }

    awaits_follows : Follows Z U p (Marked Z s.marks) s
    awaits_follows =
        record {
          shape = k.shape;
          sound = λ {j} o. seeded (marked_at o) tt;
          seeds = λ x. record { on = x.1 };
          pending = λ o. (k.waits o).0;
          known = k.known;
          closed = λ {j} o.
              elim (ℕ_discrete (node_of Z j) 1) [
                | yes e ↦ inr (exit_done o e)
                | no e ↦ elim (dec_between low high j) [ yes b ↦ inl (k.woken o b e) | no b ↦ inr (outside_done o b) ]
              ];
        }

    -- no exit is pending
    awaits_settled : Settled Z U s
    awaits_settled =
        record {
          not_pending = λ g r q hg hr hq o x. (k.waits x).1 (node-of (record { routine = hg; node = omega arith; root = hr; state = hq }));
        }

    -- ---- so following ends with what follows from the marks

    pub awaits_shows : Shows Z (Derivable p (Marked Z s.marks) Any) (work Z (enough_iterations Z) p (lowest s.pending 0) s).marks
    awaits_shows =
        let z = work_shape Z U (enough_iterations Z) p (lowest s.pending 0) s refl k.shape in
        shows_marked Z U z.marks-length z.marks_bits (follow_exact_ended Z U p w (Marked Z s.marks) proper s awaits_follows awaits_settled)
