-- The sizes that a well-formed program chooses: the largest count of nodes, and that there is room for them.
use mathlib.Core.Path.{◌≡◌, refl, sym, ◌∙◌}
use mathlib.Core.Bool.{Bool, true, false, cond}
use mathlib.Core.List.{List, [], ◌∷◌}
use Prim.Native.Nat.{ℕ, zero, suc, max, ◌≤◌}
use native.Mathlib.Omega.{arith}
use native.Mathlib.Nat.{le_refl}
use lib.Dec.{leb}
use lib.ListN.{get_or}
use Rattle.std.specs.List.{fold, reduce}
use Rattle.std.specs.Option.{unwrap_or}
use borrow.Author.Tests.{leb-true, leb-false}
use Rattle.program.specs.Sizes.{max_nodes, marks_most}
use Rattle.program.specs.Program.{Program, nodes_fit}
use Rattle.program.specs.Chosen.{largest, sizes_of, numbers, Admitted}
use Rattle.program.specs.WellFormed.{All, WellFormed}
use Rattle.program.proofs.LinesJudged.{at_most}
use Rattle.program.proofs.ProgramLimits.{well_formed_limits}

pub largest_at : (ns : List ℕ) (f : ℕ) → get_or ns f 0 ≤ largest ns
unfolding largest
largest_at [] f = omega arith
largest_at (n ∷ ns) f = go (leb (largest ns) n) refl f (largest_at ns)
  where
    go : (t : Bool) → leb (largest ns) n ≡ t → (f : ℕ) → ((g : ℕ) → get_or ns g 0 ≤ largest ns) → get_or (n ∷ ns) f 0 ≤ cond t n (largest ns)
    go true e zero k = le_refl n
    go true e (suc f) k = omega (arith, leb-true (largest ns) n e, k f)
    go false e zero k = omega (arith, leb-false (largest ns) n e)
    go false e (suc f) k = k f

largest_most : (ns : List ℕ) → All nodes_fit ns → largest ns ≤ max_nodes
unfolding largest All
largest_most [] h = omega arith
largest_most (n ∷ ns) h = go (leb (largest ns) n) (at_most 2 max_nodes n h.0) (largest_most ns h.1)
  where
    go : (t : Bool) → n ≤ max_nodes → largest ns ≤ max_nodes → cond t n (largest ns) ≤ max_nodes
    go true a b = a
    go false a b = b

pub admitted : (p : Program) → WellFormed p → Admitted (sizes_of p)
admitted p w =
    let l = well_formed_limits p w in
    record {
      routines = l.routines;
      nodes = largest_most p.nodes w.nodes-fit;
      states = l.states;
      product = leb-true (numbers (sizes_of p)) marks_most w.sized;
    }

-- ---- the own largest is what std makes of the numbers

larger : (n m : ℕ) → cond (leb m n) n m ≡ max n m
larger n m = go (leb m n) refl
  where
    go : (t : Bool) → leb m n ≡ t → cond t n m ≡ max n m
    go true e = let h = leb-true m n e in omega arith
    go false e = let h = leb-false m n e in omega arith

folded : (n : ℕ) (ns : List ℕ) → fold max n ns ≡ max n (largest ns)
unfolding largest
folded n [] = omega arith
folded n (m ∷ ns) = folded (max n m) ns ∙ rw (larger m (largest ns)) (omega arith)

pub largest_is : (ns : List ℕ) → unwrap_or (reduce max ns) 0 ≡ largest ns
unfolding largest
largest_is [] = refl
largest_is (n ∷ ns) = folded n ns ∙ sym (larger n (largest ns))
