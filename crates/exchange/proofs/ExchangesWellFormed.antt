-- Exchanges keep a program well-formed.
use mathlib.Core.Path.{◌≡◌, refl, ap, sym, ◌∙◌}
use mathlib.Core.Bool.{Bool, true, false, cond, ◌||◌, not}
use mathlib.Core.List.{List, [], ◌∷◌, map}
use Prim.Native.Nat.{ℕ, zero, suc, ◌+◌, ◌≤◌}
use native.Mathlib.Omega.{arith}
use lib.Dec.{eqb}
use lib.ListN.{length, set, length-set}
use lib.Seq.{get_or-set_other}
use borrow.Author.Tests.{eqb-true, eqb-false, ne_eqb, not-true}
use Rattle.base.proofs.Bools.{neither}
use Rattle.tables.specs.Keys.{Ascending}
use Rattle.program.specs.Sizes.{max_edges}
use Rattle.program.specs.Program.{Edge, Program, nodes_fit, edge_fits}
use Rattle.program.specs.Chosen.{sizes_fit}
use Rattle.program.specs.Frames.{edge_key}
use Rattle.program.specs.WellFormed.{All, WellFormed}
use Rattle.program.proofs.OtherEdges.{other_nodes, other_edges}
use Rattle.edit.specs.Editing.{same_edge, has_edge, with_edges}
use Rattle.edit.proofs.EdgesRemaining.{lower, length_remaining, all_remaining, ascending_remaining}
use Rattle.edit.proofs.EditsWellFormed.{same_equal, has_inserted, length_inserted, with_inserted}
use Rattle.exchange.specs.Changes.{Exchange}
use Rattle.exchange.specs.Changing.{others, inserted_all, with_nodes, emptied, exchanged_program}
use Rattle.exchange.specs.Wanted.{Fits}
use Rattle.exchange.proofs.OtherRoutines.{own, others_remaining, none_own}

-- ---- the old edges dropped

pub emptied_well_formed : (f : ℕ) (p : Program) → WellFormed p → WellFormed (emptied f p)
unfolding emptied
emptied_well_formed f p w =
    rw (others_remaining f p.edges)
    (other_edges p w _
    (all_remaining (own f) (edge_fits p) p.edges w.edges_fit)
    (ascending_remaining (own f) 0 p.edges w.edges_ascend)
    (omega (arith, w.edges_limited, length_remaining (own f) p.edges)))

-- ---- another count of nodes

all_set : {A : Type 0} (t : A → Bool) (xs : List A) (i : ℕ) (x : A) → t x ≡ true → All t xs → All t (set xs i x)
unfolding All
all_set t [] i x h a = tt
all_set t (y ∷ ys) zero x h a = (h, a.1)
all_set t (y ∷ ys) (suc i) x h a = (a.0, all_set t ys i x h a.1)

-- the edges of the other routines fit as they did
others_fit : (p : Program) (f n : ℕ) (es : List Edge) → All (edge_fits p) es → All (edge_fits (with_nodes p f n)) (others f es)
unfolding All others
others_fit p f n [] a = tt
others_fit p f n (e ∷ es) a = go (eqb e.routine f) refl (others_fit p f n es a.1)
  where
    go : (b : Bool) → eqb e.routine f ≡ b → All (edge_fits (with_nodes p f n)) (others f es)
        → All (edge_fits (with_nodes p f n)) (cond b (others f es) (e ∷ others f es))
    go true z r = r
    go false z r = (rw (get_or-set_other p.nodes f e.routine n 0 (eqb-false e.routine f z)) a.0, r)

-- the program without any edge of routine f, and with another count of nodes for it
abbrev resized : ℕ → ℕ → Program → Program
resized f n p = with_nodes (emptied f p) f n

resized_well_formed : (f n : ℕ) (p : Program) → WellFormed p → nodes_fit n ≡ true → sizes_fit (with_nodes p f n) ≡ true → WellFormed (resized f n p)
unfolding emptied
resized_well_formed f n p w h z =
    let v = emptied_well_formed f p w in
    other_nodes p w (set p.nodes f n) (others f p.edges)
    (simp length-set w.complete)
    (all_set nodes_fit p.nodes f n h w.nodes-fit)
    z
    (others_fit p f n p.edges w.edges_fit)
    v.edges_ascend
    v.edges_limited

-- ---- the new edges added

-- an edge is not among the edges of other routines
not_others : (f : ℕ) (d : Edge) (es : List Edge) → own f d ≡ true → All (λ e. not (own f e)) es → has_edge d es ≡ false
unfolding All has_edge
not_others f d [] h a = refl
not_others f d (e ∷ es) h a =
    let o = eqb-true d.routine f h in
    rw (ne_eqb d.routine e.routine (λ z. eqb-false e.routine f (not-true _ a.0) (sym z ∙ o)))
    (not_others f d es h a.1)

-- nor among those above it
not_above : (d : Edge) (es : List Edge) → Ascending (edge_key d) (map edge_key es) → has_edge d es ≡ false
unfolding Ascending has_edge
not_above d [] s = refl
not_above d (e ∷ es) s =
    go (same_edge d e) refl (not_above d es (lower (edge_key d) (edge_key e) (map edge_key es) s.0 s.1))
  where
    go : (b : Bool) → same_edge d e ≡ b → has_edge d es ≡ false → same_edge d e || has_edge d es ≡ false
    go true z r = absurd (let k = ap edge_key (same_equal d e z) in omega (arith, s.0))
    go false z r = rw z r

not_inserted : (d : Edge) (ds es : List Edge) → has_edge d ds ≡ false → has_edge d es ≡ false → has_edge d (inserted_all ds es) ≡ false
unfolding has_edge inserted_all
not_inserted d [] es h k = k
not_inserted d (e ∷ ds) es h k =
    let z = neither (same_edge d e) _ h in
    has_inserted d e (inserted_all ds es) ∙ rw z.0 (not_inserted d ds es z.1 k)

length_inserted_all : (ds es : List Edge) → length (inserted_all ds es) ≡ length ds + length es
unfolding inserted_all
length_inserted_all [] es = omega arith
length_inserted_all (d ∷ ds) es = omega (arith, length_inserted d (inserted_all ds es), length_inserted_all ds es)

module _ (q : Program) (w : WellFormed q) (f : ℕ) (none : All (λ e. not (own f e)) q.edges) where
  filled : (lo : ℕ) (ds : List Edge) → All (edge_fits q) ds → All (own f) ds → Ascending lo (map edge_key ds) → length q.edges + length ds ≤ max_edges
      → WellFormed (with_edges q (inserted_all ds q.edges))
  unfolding All Ascending inserted_all
  filled lo [] a o s l = w
  filled lo (d ∷ ds) a o s l =
      let v = filled (edge_key d) ds a.1 o.1 s.1 (omega arith) in
      with_inserted q w d (inserted_all ds q.edges) a.0
      (not_inserted d ds q.edges (not_above d ds s.1) (not_others f d q.edges o.0 none))
      v.edges_fit
      v.edges_ascend
      (omega (arith, length_inserted_all ds q.edges))

pub exchanged_well_formed : (x : Exchange) (p : Program) → WellFormed p → Fits x p → WellFormed (exchanged_program x p)
unfolding emptied exchanged_program
exchanged_well_formed x p w g =
    filled (resized x.routine x.nodes p) (resized_well_formed x.routine x.nodes p w g.nodes-fit g.sized) x.routine
    (none_own x.routine p.edges) 0 x.edges g.edges_fit g.edges_own g.edges_ascend g.edges_limited
