-- The numbers of an edit line's refusals.
use mathlib.Core.Path.{◌≡◌, refl}
use mathlib.Core.Logic.{◌⊎◌, inl, inr}
use mathlib.Core.Bool.{Bool, true, false, cond}
use mathlib.Core.List.{List}
use Prim.Native.Nat.{ℕ, ◌≤◌}
use native.Mathlib.Omega.{arith}
use lib.Dec.{leb, eqb}
use lib.ListN.{length}
use borrow.Author.Tests.{eqb-false}
use Rattle.program.specs.Program.{Edge, Program}
use Rattle.edit.specs.Edits.{old_edge, new_edge}
use Rattle.edit_line.specs.EditLines.{only_line, bad_line, out_of_range, edit_in, edit_from, read_edit, wanted_edit}
use Rattle.edit.specs.Editing.{has_edge, edit_refusal, wanted_by}
use Rattle.edit.specs.declared.Edit.{Edit}
use Rattle.edit.specs.declared.Edit.TheVariants.{Add, Drop, Replace}
use Rattle.edit.specs.EditReads.{EditRead}
use Rattle.edit.specs.EditReads.{Read, Refused}

-- a refused edit line has a number from 12 to 16
abbrev Numbered : EditRead → Type 0
Numbered (Read e) = Unit
Numbered (Refused n) = (12 ≤ n) × (n ≤ 16)

read_numbered : (p : Program) (line : List ℕ) → Numbered (read_edit p line)
unfolding read_edit edit_from
read_numbered p line = go (bad_line (only_line line)) (out_of_range p (only_line line))
  where
    go : (b c : Bool) → Numbered (cond b (Refused 12) (cond c (Refused 13) (Read (edit_in (only_line line)))))
    go true c = (omega arith, omega arith)
    go false true = (omega arith, omega arith)
    go false false = tt

abbrev NoneOr : ℕ → Type 0
NoneOr n = (n ≡ 0) ⊎ ((12 ≤ n) × (n ≤ 16))

refusal_most : (e : Edit) (es : List Edge) → NoneOr (edit_refusal e es)
refusal_most (Add s) es = go (has_edge (new_edge (Add s)) es) (leb 256 (length es))
  where
    go : (b c : Bool) → NoneOr (cond b 15 (cond c 16 0))
    go true c = inr (omega arith, omega arith)
    go false true = inr (omega arith, omega arith)
    go false false = inl refl
refusal_most (Drop s) es = go (has_edge (old_edge (Drop s)) es)
  where
    go : (b : Bool) → NoneOr (cond b 0 14)
    go true = inl refl
    go false = inr (omega arith, omega arith)
refusal_most (Replace s l) es = go (has_edge (old_edge (Replace s l)) es) (has_edge (new_edge (Replace s l)) es)
  where
    go : (b c : Bool) → NoneOr (cond b (cond c 15 0) 14)
    go true true = inr (omega arith, omega arith)
    go true false = inl refl
    go false c = inr (omega arith, omega arith)

judged_numbered : (r : EditRead) (es : List Edge) → Numbered r → Numbered (wanted_by r es)
judged_numbered (Refused n) es h = h
judged_numbered (Read e) es h = go (eqb (edit_refusal e es) 0) refl
  where
    go : (b : Bool) → eqb (edit_refusal e es) 0 ≡ b → Numbered (cond b (Read e) (Refused (edit_refusal e es)))
    go true x = tt
    go false x = elim (refusal_most e es) [ inl z ↦ absurd (eqb-false (edit_refusal e es) 0 x z) | inr z ↦ z ]

pub wanted_number : (p : Program) (line : List ℕ) (n : ℕ) → wanted_edit p line ≡ Refused n → (12 ≤ n) × (n ≤ 16)
unfolding wanted_edit
wanted_number p line n h = rw h at (judged_numbered (read_edit p line) p.edges (read_numbered p line))
