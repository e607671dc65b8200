-- What the routines gain by an add, on fresh marks, and the copy of the marks before it.
use mathlib.Core.Path.{◌≡◌, sym, ap, ◌∙◌}
use mathlib.Core.List.{List, ◌++◌}
use Prim.Native.Nat.{ℕ, ◌≤◌}
use native.Mathlib.Omega.{arith}
use lib.ListN.{length, take, drop, replicate, length-replicate}
use lib.Seq.{length-take-le}
use Rattle.program.specs.declared.sizes.Sizes.{Sizes}
use Rattle.program.specs.Sizes.{marks_most}
use Rattle.program.specs.Chosen.{numbers}
use Rattle.program.specs.Program.{Program}
use Rattle.reach.specs.Configurations.{Usable}
use Rattle.reach.specs.Marks.{fresh_at}
use Rattle.reach.specs.Ranged.{Ranged}
use Rattle.reach.proofs.ShapeKept.{marks-length}
use Rattle.reach.proofs.MarksCopied.{copied_is}
use Rattle.reach.proofs.AnalysisExact.{analysis_exact}
use Rattle.callgraph.specs.Components.{Gained}
use Rattle.forward.specs.Parts.{Repaired}
use Rattle.gained.specs.Parts.{FlagsOf, MarkedMore}

-- the copy of the old marks
pub copied_fresh : {Z : Sizes} (U : Usable Z) (p : Program) (from to : List ℕ) {copy : List ℕ} → length to ≡ numbers Z → from ≡ fresh_at Z p
    → copy ≡ take (length from) from ++ drop (length from) to → copy ≡ fresh_at Z p
copied_fresh {Z} U p from to l f e = copied_is from to e (ap length f ∙ marks-length Z U p ∙ sym l) ∙ f

-- of the room for it so much is lent
pub copy_room : (n : ℕ) → n ≤ marks_most → n ≡ length {A = ℕ} (take n (replicate marks_most 0))
copy_room n h = sym (length-take-le {A = ℕ} n (replicate marks_most 0) (omega (arith, length-replicate {A = ℕ} marks_most 0)))

-- on fresh marks, a mark more is a configuration more
module _ {Z : Sizes} (U : Usable Z) (p p' : Program) (w : Ranged Z p) (w' : Ranged Z p') where
  more_gained : {f : ℕ} → MarkedMore Z (fresh_at Z p) (fresh_at Z p') f → Gained p p' f
  more_gained {f} x =
      record {
        node = x.node;
        root = x.root;
        state = x.state;
        now_there = (analysis_exact Z U p' w' f x.node x.root x.state).0 x.now_there;
        not_before = λ y. x.not_before ((analysis_exact Z U p w f x.node x.root x.state).1 y);
      }

  gained_more : {f : ℕ} → Gained p p' f → MarkedMore Z (fresh_at Z p) (fresh_at Z p') f
  gained_more {f} x =
      record {
        node = x.node;
        root = x.root;
        state = x.state;
        now_there = (analysis_exact Z U p' w' f x.node x.root x.state).1 x.now_there;
        not_before = λ y. x.not_before ((analysis_exact Z U p w f x.node x.root x.state).0 y);
      }

  gained_flags : {flags : List ℕ} → FlagsOf (MarkedMore Z (fresh_at Z p) (fresh_at Z p')) flags → FlagsOf (Gained p p') flags
  gained_flags k = record { flag = λ f h. (λ o. more_gained ((k.flag f h).0 o), λ x. (k.flag f h).1 (gained_more x)) }

  -- the marks that were repaired after steps were added have more than the copy of the old ones where a configuration is gained
  pub grown_flags : {p'' : Program} {old marks work flags : List ℕ} → old ≡ fresh_at Z p → Repaired Z p' p'' marks work → FlagsOf (MarkedMore Z old marks) flags → FlagsOf (Gained p p') flags
  grown_flags o r k = gained_flags (rw (o, r.own ∙ ap (fresh_at Z) r.is_wanted) at k)
