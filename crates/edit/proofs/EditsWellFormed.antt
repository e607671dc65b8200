-- Edits keep a program well-formed.
use mathlib.Core.Path.{◌≡◌, refl, ap, sym, ◌∙◌}
use mathlib.Core.Bool.{Bool, true, false, cond, ◌&&◌, ◌||◌, not}
use mathlib.Core.List.{List, [], ◌∷◌, map}
use Prim.Native.Nat.{ℕ, suc, ◌+◌, ◌*◌, ◌≤◌, ◌<◌}
use native.Mathlib.Omega.{arith}
use lib.Dec.{ltb, leb, eqb}
use lib.ListN.{length}
use borrow.Author.Tests.{ltb-true, ltb-false, leb-false, eqb-true, eqb-false, eq-eqb, not-true}
use Rattle.text.specs.Lines.{Bytes}
use Rattle.program.specs.Sizes.{max_edges}
use Rattle.program.specs.Program.{Edge, Program, edge_fits}
use Rattle.program.specs.Frames.{edge_key, edge_frame}
use Rattle.program.specs.WellFormed.{All, WellFormed}
use Rattle.tables.specs.Keys.{Ascending}
use Rattle.base.proofs.Bools.{both, and-false, neither, or_swap}
use Rattle.program.proofs.FramesFitBytes.{edge_bytes}
use Rattle.program.proofs.OtherEdges.{other_edges}
use Rattle.edit.specs.Edits.{old_edge, new_edge}
use Rattle.edit.specs.Editing.{same_edge, has_edge, without, inserted, with_edges, edit_refusal, edited_program}
use Rattle.edit.specs.declared.Edit.{Edit}
use Rattle.edit.specs.declared.Edit.TheVariants.{Add, Drop, Replace}
use Rattle.edit.proofs.EdgesRemaining.{without_remaining, length_remaining, all_remaining, ascending_remaining}

-- ---- the same edge

eqb_refl : (n : ℕ) → eqb n n ≡ true
eqb_refl n = eq-eqb n n refl

pub same_self : (e : Edge) → same_edge e e ≡ true
same_self e = simp eqb_refl

pub equal_parts : (a b c d e f g h : ℕ) → a ≡ e → b ≡ f → c ≡ g → d ≡ h
    → ◌≡◌ {A = Edge} (record { routine = a; source = b; label = c; target = d }) (record { routine = e; source = f; label = g; target = h })
equal_parts a b c d e f g h p q r s = cc

pub same_equal : (e d : Edge) → same_edge e d ≡ true → e ≡ d
same_equal e d h =
    let a = both (eqb e.routine d.routine && eqb e.source d.source && eqb e.label d.label) _ h in
    let b = both (eqb e.routine d.routine && eqb e.source d.source) _ a.0 in
    let c = both (eqb e.routine d.routine) _ b.0 in
    equal_parts _ _ _ _ _ _ _ _ (eqb-true _ _ c.0) (eqb-true _ _ c.1) (eqb-true _ _ b.1) (eqb-true _ _ a.1)

-- two numbers in base 256
digits : (h l i m : ℕ) → l < 256 → m < 256 → h * 256 + l ≡ i * 256 + m → (h ≡ i) × (l ≡ m)
digits h l i m a b e = (omega arith, omega arith)

-- edges of bytes with the same key are the same
pub same_key : (e d : Edge) → Bytes (edge_frame e) → Bytes (edge_frame d) → edge_key e ≡ edge_key d → same_edge e d ≡ true
same_key e d b c h =
    let w = digits ((e.routine * 256 + e.source) * 256 + e.label) e.target ((d.routine * 256 + d.source) * 256 + d.label) d.target (omega (arith, b)) (omega (arith, c)) (omega (arith, h)) in
    let x = digits (e.routine * 256 + e.source) e.label (d.routine * 256 + d.source) d.label (omega (arith, b)) (omega (arith, c)) w.0 in
    let y = digits e.routine e.source d.routine d.source (omega (arith, b)) (omega (arith, c)) x.0 in
    simp (eq-eqb _ _ y.0, eq-eqb _ _ y.1, eq-eqb _ _ x.1, eq-eqb _ _ w.1)

-- ---- members and lengths

-- two different edges are not both the same as a third
apart : (d e x : Edge) → same_edge e x ≡ false → same_edge d x && same_edge d e ≡ false
apart d e x s = go (same_edge d x) (same_edge d e) refl refl
  where
    go : (a b : Bool) → same_edge d x ≡ a → same_edge d e ≡ b → a && b ≡ false
    go true true h i = absurd (let y : e ≡ x = sym (same_equal d e i) ∙ same_equal d x h in let z : ◌≡◌ {A = ℕ} 0 1 = cc (same_self x) in omega arith)
    go true false h i = refl
    go false b h i = refl

pub has_inserted : (d e : Edge) (es : List Edge) → has_edge d (inserted e es) ≡ same_edge d e || has_edge d es
unfolding has_edge inserted
has_inserted d e [] = refl
has_inserted d e (x ∷ xs) = go (ltb (edge_key e) (edge_key x)) (has_inserted d e xs)
  where
    go : (b : Bool) → has_edge d (inserted e xs) ≡ same_edge d e || has_edge d xs
        → has_edge d (cond b (e ∷ x ∷ xs) (x ∷ inserted e xs)) ≡ same_edge d e || (same_edge d x || has_edge d xs)
    go true h = refl
    go false h = rw h (or_swap (same_edge d x) (same_edge d e) (has_edge d xs))

pub has_without : (d e : Edge) (es : List Edge) → has_edge d (without e es) ≡ not (same_edge d e) && has_edge d es
unfolding has_edge without
has_without d e [] = go (same_edge d e)
  where
    go : (b : Bool) → false ≡ not b && false
    go true = refl
    go false = refl
has_without d e (x ∷ xs) = go (same_edge e x) refl (has_without d e xs)
  where
    first : (b : Bool) → has_edge d (without e xs) ≡ not b && has_edge d xs → has_edge d (without e xs) ≡ not b && (b || has_edge d xs)
    first true h = h
    first false h = h

    later : (a b : Bool) → a && b ≡ false → has_edge d (without e xs) ≡ not b && has_edge d xs → a || has_edge d (without e xs) ≡ not b && (a || has_edge d xs)
    later true true h i = absurd (let z : ◌≡◌ {A = ℕ} 0 1 = cc in omega arith)
    later true false h i = refl
    later false b h i = i

    go : (b : Bool) → same_edge e x ≡ b → has_edge d (without e xs) ≡ not (same_edge d e) && has_edge d xs
        → has_edge d (cond b (without e xs) (x ∷ without e xs)) ≡ not (same_edge d e) && (same_edge d x || has_edge d xs)
    go true s h = rw (← same_equal e x s) (first (same_edge d e) h)
    go false s h = later (same_edge d x) (same_edge d e) (apart d e x s) h

pub length_inserted : (e : Edge) (es : List Edge) → length (inserted e es) ≡ suc (length es)
unfolding inserted
length_inserted e [] = refl
length_inserted e (x ∷ xs) = go (ltb (edge_key e) (edge_key x)) (length_inserted e xs)
  where
    go : (b : Bool) → length (inserted e xs) ≡ suc (length xs) → length (cond b (e ∷ x ∷ xs) (x ∷ inserted e xs)) ≡ suc (suc (length xs))
    go true h = refl
    go false h = ap suc h

pub length_without : (e : Edge) (es : List Edge) → length (without e es) ≤ length es
length_without e es = rw (without_remaining e es) (length_remaining (same_edge e) es)

-- an edge that is there makes it shorter
pub length_dropped : (e : Edge) (es : List Edge) → has_edge e es ≡ true → length (without e es) < length es
unfolding has_edge without
length_dropped e [] h = absurd (let z : ◌≡◌ {A = ℕ} 0 1 = cc in omega arith)
length_dropped e (x ∷ xs) h = go (same_edge e x) h (length_dropped e xs)
  where
    go : (b : Bool) → b || has_edge e xs ≡ true → (has_edge e xs ≡ true → length (without e xs) < length xs) → length (cond b (without e xs) (x ∷ without e xs)) < suc (length xs)
    go true h r = omega (arith, length_without e xs)
    go false h r = omega (arith, r h)

-- ---- what all pass

pub all_inserted : (t : Edge → Bool) (e : Edge) (es : List Edge) → t e ≡ true → All t es → All t (inserted e es)
unfolding All inserted
all_inserted t e [] h a = (h, tt)
all_inserted t e (x ∷ xs) h a = go (ltb (edge_key e) (edge_key x)) (all_inserted t e xs h a.1)
  where
    go : (b : Bool) → All t (inserted e xs) → All t (cond b (e ∷ x ∷ xs) (x ∷ inserted e xs))
    go true r = (h, a)
    go false r = (a.0, r)

pub all_without : (t : Edge → Bool) (e : Edge) (es : List Edge) → All t es → All t (without e es)
all_without t e es a = rw (without_remaining e es) (all_remaining (same_edge e) t es a)

-- ---- the order

pub ascending_without : (lo : ℕ) (e : Edge) (es : List Edge) → Ascending lo (map edge_key es) → Ascending lo (map edge_key (without e es))
ascending_without lo e es s = rw (without_remaining e es) (ascending_remaining (same_edge e) lo es s)

above : (k j : ℕ) → j ≤ k → eqb k j ≡ false → j < k
above k j h e = omega (arith, eqb-false k j e)

-- no edge of the list has the key of this one
abbrev Fresh : Edge → List Edge → Type 0
Fresh e = All (λ d. not (eqb (edge_key e) (edge_key d)))

pub ascending_inserted : (lo : ℕ) (e : Edge) (es : List Edge) → lo < edge_key e → Fresh e es → Ascending lo (map edge_key es) → Ascending lo (map edge_key (inserted e es))
unfolding All Ascending inserted
ascending_inserted lo e [] h n s = (h, tt)
ascending_inserted lo e (x ∷ xs) h n s = go (ltb (edge_key e) (edge_key x)) refl (λ k. ascending_inserted (edge_key x) e xs k n.1 s.1)
  where
    go : (b : Bool) → ltb (edge_key e) (edge_key x) ≡ b → (edge_key x < edge_key e → Ascending (edge_key x) (map edge_key (inserted e xs)))
        → Ascending lo (map edge_key (cond b (e ∷ x ∷ xs) (x ∷ inserted e xs)))
    go true z r = (h, (ltb-true (edge_key e) (edge_key x) z, s.1))
    go false z r = (s.0, r (above (edge_key e) (edge_key x) (ltb-false (edge_key e) (edge_key x) z) (not-true _ n.0)))

-- ---- well-formed programs

module _ (p : Program) (w : WellFormed p) where
  -- an edge that is not there has another key than all that are
  fresh : (e : Edge) (es : List Edge) → edge_fits p e ≡ true → All (edge_fits p) es → has_edge e es ≡ false → Fresh e es
  unfolding All has_edge
  fresh e [] f a h = tt
  fresh e (x ∷ xs) f a h =
      let z = neither (same_edge e x) _ h in
      (other (eqb (edge_key e) (edge_key x)) refl z.0, fresh e xs f a.1 z.1)
    where
      other : (b : Bool) → eqb (edge_key e) (edge_key x) ≡ b → same_edge e x ≡ false → not b ≡ true
      other true k z = absurd (let s = same_key e x (edge_bytes p w e f) (edge_bytes p w x a.0) (eqb-true _ _ k) in let z : ◌≡◌ {A = ℕ} 0 1 = cc in omega arith)
      other false k z = refl

  pub with_inserted : (e : Edge) (es : List Edge) → edge_fits p e ≡ true → has_edge e es ≡ false → All (edge_fits p) es → Ascending 0 (map edge_key es) → length es < max_edges
      → WellFormed (with_edges p (inserted e es))
  with_inserted e es f h a s n =
      other_edges p w (inserted e es)
      (all_inserted (edge_fits p) e es f a)
      (ascending_inserted 0 e es (omega arith) (fresh e es f a h) s)
      (omega (arith, length_inserted e es))

  with_dropped : (e : Edge) → WellFormed (with_edges p (without e p.edges))
  with_dropped e =
      other_edges p w (without e p.edges)
      (all_without (edge_fits p) e p.edges w.edges_fit)
      (ascending_without 0 e p.edges w.edges_ascend)
      (omega (arith, w.edges_limited, length_without e p.edges))

  with_replaced : (d e : Edge) → edge_fits p e ≡ true → has_edge d p.edges ≡ true → has_edge e p.edges ≡ false → WellFormed (with_edges p (inserted e (without d p.edges)))
  with_replaced d e f h i =
      with_inserted e (without d p.edges) f
      (has_without e d p.edges ∙ rw i (and-false (not (same_edge e d))))
      (all_without (edge_fits p) d p.edges w.edges_fit)
      (ascending_without 0 d p.edges w.edges_ascend)
      (omega (arith, w.edges_limited, length_dropped d p.edges h))

pub added : (b c : Bool) → ◌≡◌ {A = ℕ} (cond b 15 (cond c 16 0)) 0 → (b ≡ false) × (c ≡ false)
added true c h = absurd (omega arith)
added false true h = absurd (omega arith)
added false false h = (refl, refl)

pub replaced : (b c : Bool) → ◌≡◌ {A = ℕ} (cond b (cond c 15 0) 14) 0 → (b ≡ true) × (c ≡ false)
replaced true true h = absurd (omega arith)
replaced true false h = (refl, refl)
replaced false c h = absurd (omega arith)

-- a well-formed program stays well-formed
pub edited_well_formed : (e : Edit) (p : Program) → WellFormed p → edge_fits p (old_edge e) ≡ true → edge_fits p (new_edge e) ≡ true → edit_refusal e p.edges ≡ 0
    → WellFormed (edited_program e p)
unfolding edited_program
edited_well_formed (Add s) p w f g h =
    let z = added (has_edge (new_edge (Add s)) p.edges) (leb max_edges (length p.edges)) h in
    with_inserted p w (new_edge (Add s)) p.edges g z.0 w.edges_fit w.edges_ascend (leb-false max_edges (length p.edges) z.1)
edited_well_formed (Drop s) p w f g h = with_dropped p w (old_edge (Drop s))
edited_well_formed (Replace s l) p w f g h =
    let z = replaced (has_edge (old_edge (Replace s l)) p.edges) (has_edge (new_edge (Replace s l)) p.edges) h in
    with_replaced p w (old_edge (Replace s l)) (new_edge (Replace s l)) g z.0 z.1
