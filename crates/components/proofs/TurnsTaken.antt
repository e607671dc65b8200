-- The turns as the code takes them: what it has at hand is what the mathematics asks for.
use mathlib.Core.Path.{◌≡◌, refl, sym, ap, subst, ◌∙◌}
use mathlib.Core.Logic.{◌⊎◌, ◌↔◌, ◌≢◌}
use mathlib.Core.List.{List}
use Prim.Native.Nat.{ℕ, ◌+◌, ◌/◌, ◌%◌, ◌<◌}
use native.Mathlib.Omega.{arith}
use lib.ListN.{length, get_or, replicate, length-replicate}
use Rattle.program.specs.Sizes.{max_routines}
use Rattle.program.specs.Program.{Program}
use Rattle.words.proofs.FlagsOfPart.{take_at}
use Rattle.reach.specs.Sizes.{summaries}
use Rattle.reach.specs.Configurations.{Usable}
use Rattle.reach.specs.Reachable.{Reachable}
use Rattle.reach.specs.Worklist.{summary}
use Rattle.reach.specs.Marks.{Marked, Shows, fresh_at}
use Rattle.base.proofs.SetFlags.{zeros}
use Rattle.reach.proofs.Numbers.{summary_fits}
use Rattle.reach.proofs.ShapeKept.{marks-length}
use Rattle.reach.proofs.AnalysisExact.{analysis_exact}
use Rattle.words.specs.Words.{flags_of}
use Rattle.closure.specs.Parts.{Learnt}
use Rattle.closure.proofs.SummariesKnown.{exit_known, exit_marked}
use Rattle.callgraph.specs.Components.{Leads, Together, Anew, Reanalyzed, Member}
use Rattle.callgraph.specs.Parts.{LeadFlags, rank_of, Joined}
use Rattle.roots.specs.Roots.{LiveMarked}
use Rattle.roots.specs.Parts.{RootFlags}
use Rattle.passes.specs.Passes.{Passed}
use Rattle.passes.specs.PassParts.{Passable}
use Rattle.components.specs.TurnParts.{DropOf, Ranks, turn_of, first_turn, end_turn, Working, Turning}
use Rattle.reanalysis.specs.Parts.{CallsDiffering}
use Rattle.callgraph.proofs.ComponentsFromFlags.{rank_positive, rank_limited, rank_same, rank_less, dec_together}
use Rattle.components.proofs.TurnsWork.{skipped, kept_turn, worked_turn}
use Rattle.components.proofs.TurnsFinished.{pass_is, passable, reanalyzed_is, first-turn, all_right, cut_fresh}
use Rattle.program.specs.declared.sizes.Sizes.{Sizes}
use Rattle.program.specs.Chosen.{numbers}

-- ---- the order of the components

ranks : {p : Program} {leads : List ℕ} → LeadFlags (Leads p) leads → Ranks p (rank_of leads)
ranks l =
    record {
      low = λ f hf. rank_positive l hf;
      high = λ f hf. rank_limited l hf;
      equal = λ f g hf hg t. rank_same l hf hg t;
      lower = λ f g hf hg e n. rank_less l hf hg e n;
      decides = λ f g hf hg. dec_together l hf hg;
    }

module _ {Z : Sizes} where
  -- ---- a turn

  module _ {p p' : Program} {edited i : ℕ} {leads roots before marks done reanalyzed : List ℕ} (t : Turning Z p p' edited leads roots before i marks done reanalyzed) where
    next : {marks' done' reanalyzed' : List ℕ} → Working Z p p' edited (rank_of leads) (i + 1) marks' done' reanalyzed'
        → Turning Z p p' edited leads roots before (i + 1) marks' done' reanalyzed'
    next w = record { drop = t.drop; graph = t.graph; old_roots = t.old_roots; old_summaries = t.old_summaries; working = w }

    -- the routine whose turn it may be is done
    pub done_skipped : get_or done (i % max_routines) 0 ≢ 0 → Turning Z p p' edited leads roots before (i + 1) marks done reanalyzed
    done_skipped m =
        next (skipped t.drop (ranks t.graph) t.working (λ f hf e. let z : i % max_routines ≡ f = omega arith in subst (Member done) z m))

    -- or has another rank
    pub rank_skipped : {n : ℕ} → n ≡ rank_of leads (i % max_routines) → n ≢ i / max_routines → Turning Z p p' edited leads roots before (i + 1) marks done reanalyzed
    rank_skipped e x =
        next (skipped t.drop (ranks t.graph) t.working (λ f hf z.
        let same : i % max_routines ≡ f = omega arith in
        let rank : rank_of leads f ≡ i / max_routines = omega arith in
        absurd (x (e ∙ ap (rank_of leads) same ∙ rank))))

    -- it is the turn of this routine
    module _ {n : ℕ} (e : n ≡ rank_of leads (i % max_routines)) (x : n ≡ i / max_routines) where
      its_turn : turn_of (rank_of leads) (i % max_routines) ≡ i
      its_turn = omega (arith, e, x)

      pub at_turn : Turning Z p p' edited leads roots before (turn_of (rank_of leads) (i % max_routines)) marks done reanalyzed
      at_turn = subst (λ (j : ℕ). Turning Z p p' edited leads roots before j marks done reanalyzed) (sym its_turn) t

      pub from_turn : {marks' done' reanalyzed' : List ℕ} → Turning Z p p' edited leads roots before (turn_of (rank_of leads) (i % max_routines) + 1) marks' done' reanalyzed'
          → Turning Z p p' edited leads roots before (i + 1) marks' done' reanalyzed'
      from_turn {marks'} {done'} {reanalyzed'} y = subst (λ (j : ℕ). Turning Z p p' edited leads roots before (j + 1) marks' done' reanalyzed') its_turn y

  -- ---- the turn of routine f, with its component

  module _ {p p' : Program} {edited : ℕ} (f : ℕ) {leads roots before marks done reanalyzed : List ℕ}
      (t : Turning Z p p' edited leads roots before (turn_of (rank_of leads) f) marks done reanalyzed) (hf : f < max_routines) (waits : get_or done f 0 ≡ 0)
      {members : List ℕ} (len : length members ≡ max_routines) (is : (g : ℕ) → g < max_routines → (get_or members g 0 ≢ 0) ↔ Together p' f g) where
    pub may_pass : Passable Z p' members roots marks
    may_pass = passable t.drop (ranks t.graph) t.working f hf refl (λ m. m waits) members len is roots t.old_roots

    decides : (Member members edited ⊎ CallsDiffering Z p' members before marks) ↔ Reanalyzed p p' edited f
    decides = reanalyzed_is t.drop (ranks t.graph) t.working f hf refl (λ m. m waits) members len is before t.old_summaries

    pub component_kept : ¬ (Member members edited ⊎ CallsDiffering Z p' members before marks) → {done' : List ℕ} → Joined done members done'
        → Turning Z p p' edited leads roots before (turn_of (rank_of leads) f + 1) marks done' reanalyzed
    component_kept n {done'} j =
        next t (kept_turn t.drop (ranks t.graph) t.working f hf refl (λ m. m waits) members len is (λ o. n (decides.1 o)) done' j)

    pub component_worked : Member members edited ⊎ CallsDiffering Z p' members before marks → {marks' done' reanalyzed' : List ℕ}
        → Passed Z p' members roots marks marks' → Joined reanalyzed members reanalyzed' → Joined done members done'
        → Turning Z p p' edited leads roots before (turn_of (rank_of leads) f + 1) marks' done' reanalyzed'
    component_worked o {marks'} {done'} {reanalyzed'} s k j =
        next t (worked_turn t.drop (ranks t.graph) t.working f hf refl (λ m. m waits) members len is (decides.0 o) marks' done' reanalyzed' j k
        s.marks-length s.marks_bits inside s.outside)
      where
        inside : (g n r q : ℕ) → Member members g → Marked Z marks' g n r q ↔ Anew p p' g n r q
        inside g n r q m =
            let a = s.inside g n r q m in
            let b = pass_is t.drop (ranks t.graph) t.working f hf refl (λ m. m waits) members len is roots t.old_roots g n r q m in
            (λ x. b.0 (a.0 x), λ x. a.1 (b.1 x))

  -- ---- before the first turn, and after the last

  pub fresh_length : (U : Usable Z) (p : Program) {marks : List ℕ} → marks ≡ fresh_at Z p → length marks ≡ numbers Z
  fresh_length U p e = ap length e ∙ marks-length Z U p

  exits_flagged : (U : Usable Z) (marks : List ℕ) {words : List ℕ} → Learnt Z marks words
      → (f x q : ℕ) → f < Z.routines → x < Z.states → q < Z.states → (get_or (flags_of words) (summary Z f x q) 0 ≢ 0) ↔ Marked Z marks f 1 x q
  exits_flagged U marks {words} w f x q hf hx hq =
      let e = take_at (summaries Z) (flags_of words) (summary Z f x q) (summary_fits Z f x q hf hx hq) in (
        λ o. (record { routine = hf; node = omega (arith, U.nodes); root = hx; state = hq }, (exit_marked Z U marks w f x q hf hx hq (record { on = λ z. o (sym e ∙ z) })).on),
        λ m z. (exit_known Z U marks w f x q hf hx hq (record { on = m.1 })).on (e ∙ z),
      )

  module _ {p p' : Program} {edited : ℕ} (h : DropOf Z p p' edited) where
    fresh_marked : {marks : List ℕ} → marks ≡ fresh_at Z p → (f n r q : ℕ) → Marked Z marks f n r q ↔ Reachable p f n r q
    fresh_marked e f n r q = subst (λ (l : List ℕ). Marked Z l f n r q ↔ Reachable p f n r q) (sym e) (analysis_exact Z h.sized.usable p h.old_ranged f n r q)

    pub turning_start : {leads roots words marks : List ℕ} → marks ≡ fresh_at Z p → LeadFlags (Leads p') leads
        → RootFlags (λ (f x : ℕ). Marked Z marks f 0 x x) roots
        → Learnt Z marks words → Turning Z p p' edited leads roots (flags_of words) first_turn marks (replicate max_routines 0) (replicate max_routines 0)
    turning_start {marks = marks} e l r b =
        record {
          drop = h;
          graph = l;
          old_roots = record {
            len = r.len;
            flagged = λ f x hf hx.
                let y = r.flagged f x hf hx in
                let z = fresh_marked e f 0 x x in
                (λ o. z.0 (y.0 o), λ o. y.1 (z.1 o));
          };
          old_summaries = record {
            flagged = λ f x q hf hx hq.
                let y = exits_flagged h.sized.usable marks b f x q hf hx hq in
                let z = fresh_marked e f 1 x q in
                (λ o. z.0 (y.0 o), λ o. y.1 (z.1 o));
          };
          working = rw e (first-turn h (ranks l) (replicate max_routines 0) (replicate max_routines 0) (length-replicate {A = ℕ} max_routines 0) (length-replicate {A = ℕ} max_routines 0) (zeros max_routines) (zeros max_routines));
        }

  module _ {p p' : Program} {edited : ℕ} {leads roots before marks done reanalyzed : List ℕ} (t : Turning Z p p' edited leads roots before end_turn marks done reanalyzed) where
    pub turning_marks : {marks' : List ℕ} → Shows Z (LiveMarked Z p' marks) marks' → marks' ≡ fresh_at Z p'
    turning_marks {marks'} s = cut_fresh t.drop (ranks t.graph) t.working marks' s

    pub turning_reanalyzed : (f : ℕ) → f < max_routines → Member reanalyzed f ↔ Reanalyzed p p' edited f
    turning_reanalyzed f hf = all_right t.drop (ranks t.graph) t.working f hf
