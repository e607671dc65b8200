-- An edit whose edges are in range has keys, and its refusals are found in the table of edges.
use mathlib.Core.Path.{◌≡◌, refl, sym}
use mathlib.Core.Bool.{Bool, true, false, cond, not}
use mathlib.Core.List.{List, map}
use Prim.Native.Nat.{ℕ, min, ◌≤◌, ◌<◌}
use native.Mathlib.Omega.{arith}
use lib.Dec.{leb, eqb}
use lib.ListN.{length, take, length-map, length-take}
use borrow.Author.Tests.{leb-true, leb-false, le-leb, lt-leb, eqb-true}
use Rattle.program.specs.Sizes.{max_edges}
use Rattle.program.specs.Program.{Edge, Program, edge_fits}
use Rattle.program.specs.Decoded.{edge_of}
use Rattle.program.specs.WellFormed.{WellFormed}
use Rattle.program.proofs.FramesFitBytes.{edge_bytes}
use Rattle.edit.specs.Edits.{labelled, edge_of_step, old_edge, new_edge}
use Rattle.edit.specs.Editing.{same_edge, has_edge, without, edit_refusal, wanted_by, Applies}
use Rattle.edit.specs.Parts.{Keyed, refusal_by}
use Rattle.edit.specs.declared.Label.{Label}
use Rattle.edit.specs.declared.Step.{Step}
use Rattle.edit.specs.declared.Edit.{Edit}
use Rattle.edit.specs.declared.Edit.TheVariants.{Add, Drop, Replace}
use Rattle.edit.specs.EditReads.{EditRead}
use Rattle.edit.specs.EditReads.{Read, Refused}
use Rattle.edit.proofs.EditsWellFormed.{has_without, length_dropped, added, replaced}
use Rattle.base.proofs.Bools.{and-false}

-- ---- in range

-- both edges of an edit are in range
pub record Fits (p : Program) (e : Edit) : Type 0 where
  pub old : edge_fits p (old_edge e) ≡ true
  pub new : edge_fits p (new_edge e) ≡ true

abbrev pub FitsRead : Program → EditRead → Type 0
FitsRead p (Read e) = Fits p e
FitsRead p (Refused n) = Unit

-- ---- so that its edges have keys

pub fits_keyed : (p : Program) → WellFormed p → (e : Edit) → Fits p e → Keyed e
fits_keyed p w e f = record { old = edge_bytes p w (old_edge e) f.old; new = edge_bytes p w (new_edge e) f.new }

-- ---- the refusals 14 to 16

pub refusal-by : (e : Edit) (es : List Edge) → refusal_by e (has_edge (old_edge e) es) (has_edge (new_edge e) es) (leb max_edges (length es)) ≡ edit_refusal e es
refusal-by (Add s) es = refl
refusal-by (Drop s) es = refl
refusal-by (Replace s l) es = refl

-- a table is full where its count says so
pub full_table : (n : ℕ) (ks : List ℕ) → length ks ≡ max_edges → leb max_edges n ≡ leb max_edges (length (map edge_of (take n ks)))
full_table n ks h = rw (length-map (take n ks) edge_of, length-take n ks, h) (go (leb max_edges n) refl)
  where
    go : (b : Bool) → leb max_edges n ≡ b → b ≡ leb max_edges (min n max_edges)
    go true e = sym (le-leb max_edges (min n max_edges) (omega (arith, leb-true max_edges n e)))
    go false e = sym (lt-leb max_edges (min n max_edges) (omega (arith, leb-false max_edges n e)))

-- an edit that is not refused
pub judged_applies : (p : Program) (r : EditRead) (e : Edit) → FitsRead p r → wanted_by r p.edges ≡ Read e → Applies e p
judged_applies p (Refused n) e f h = absurd (let z : ◌≡◌ {A = ℕ} 0 1 = cc in omega arith)
judged_applies p (Read d) e f h = go (eqb (edit_refusal d p.edges) 0) refl h
  where
    go : (b : Bool) → eqb (edit_refusal d p.edges) 0 ≡ b → cond b (Read d) (Refused (edit_refusal d p.edges)) ≡ Read e → Applies e p
    go true i h = let same : d ≡ e = cc in rw (← same) (record { old_fits = f.old; new_fits = f.new; not_refused = eqb-true _ 0 i })
    go false i h = absurd (let z : ◌≡◌ {A = ℕ} 0 1 = cc in omega arith)

-- ---- a replace is a drop and then an add

module _ (s : Step) (l : Label) (es : List Edge) where
  pub drop_not_refused : edit_refusal (Replace s l) es ≡ 0 → edit_refusal (Drop s) es ≡ 0
  drop_not_refused h = rw (replaced (has_edge (edge_of_step s) es) (has_edge (labelled s l) es) h).0

  pub add_not_refused : length es ≤ max_edges → edit_refusal (Replace s l) es ≡ 0
      → edit_refusal (Add (record { routine = s.routine; source = s.source; label = l; target = s.target })) (without (edge_of_step s) es) ≡ 0
  add_not_refused n h =
      let z = replaced (has_edge (edge_of_step s) es) (has_edge (labelled s l) es) h in
      let fewer = lt-leb max_edges (length (without (edge_of_step s) es)) (omega (arith, length_dropped (edge_of_step s) es z.0)) in
      rw (has_without (labelled s l) (edge_of_step s) es, z.1, and-false (not (same_edge (labelled s l) (edge_of_step s))), fewer)

pub room_left : (s : Step) (es : List Edge) → edit_refusal (Add s) es ≡ 0 → length es < max_edges
room_left s es h = leb-false max_edges (length es) (added (has_edge (edge_of_step s) es) (leb max_edges (length es)) h).1
