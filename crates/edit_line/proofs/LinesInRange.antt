-- What was read of an edit line is in range, so that its edges have keys.
use mathlib.Core.Path.{◌≡◌, refl}
use mathlib.Core.Bool.{Bool, true, false, cond, ◌&&◌, ◌||◌, not}
use mathlib.Core.List.{List}
use Prim.Native.Nat.{ℕ, ◌-◌}
use native.Mathlib.Omega.{arith}
use lib.Dec.{ltb, eqb}
use lib.ListN.{get_or}
use borrow.Author.Tests.{ltb-false, not-false}
use Rattle.std.specs.Prelude.{Result, Ok, Err, IfOk}
use Rattle.text.specs.declared.Line.{Line}
use Rattle.automaton.specs.Sizes.{first_call}
use Rattle.automaton.specs.Automaton.{label_fits}
use Rattle.program.specs.Program.{Program, edge_fits, placed}
use Rattle.program.specs.Frames.{num}
use Rattle.program.specs.Reading.{edge_in}
use Rattle.program.specs.WellFormed.{WellFormed}
use Rattle.program.specs.declared.refusal.Refusal.{Refusal}
use Rattle.edit.specs.Edits.{event_of, label_number, edge_of_step}
use Rattle.edit.specs.Parts.{Keyed}
use Rattle.edit.specs.declared.Label.TheVariants.{Action, Call}
use Rattle.edit.specs.declared.Edit.{Edit}
use Rattle.edit.specs.declared.Edit.TheVariants.{Add, Drop, Replace}
use Rattle.edit.specs.EditReads.{Read, Refused, edit_read_of}
use Rattle.edit.proofs.EditRefusals.{Fits, FitsRead, fits_keyed}
use Rattle.edit_line.specs.EditLines.{only_line, bad_line, out_of_range, step_in, edit_in, edit_from, read_edit}
use Rattle.base.proofs.Bools.{neither}

-- the label of a number has that number
label-number : (a : ℕ) → label_number (event_of a) ≡ a
label-number a = go (ltb a first_call) refl
  where
    go : (b : Bool) → ltb a first_call ≡ b → label_number (cond b (Action a) (Call (a - first_call))) ≡ a
    go true e = refl
    go false e = let h = ltb-false a first_call e in omega arith

-- an edge that fits still does with another label that does
another_label : (a b c d : Bool) → a && b && c ≡ true → d ≡ true → a && b && d ≡ true
another_label true true c d h i = i
another_label true false c d h i = h
another_label false b c d h i = h

abbrev kind_by : Bool → Bool → Bool → ℕ
kind_by x y z = cond x 1 (cond y 2 (cond z 3 0))

-- a line that is not refused by 12 or 13
edit_fits : (p : Program) (l : Line) → bad_line l ≡ false → out_of_range p l ≡ false → Fits p (edit_in l)
edit_fits p l b o =
    let known = (neither (eqb l.count 0) _ (neither (eqb l.count 0 || eqb (kind_by k m n) 0) _ b).0).1 in
    let w = neither (not (edge_fits p (edge_in l))) _ o in
    go k m n known (not-false _ w.0) w.1
  where
    k : Bool
    k = eqb (num l 0) 0x2B

    m : Bool
    m = eqb (num l 0) 0x2D

    n : Bool
    n = eqb (num l 0) 0x3D

    go : (x y z : Bool) → eqb (kind_by x y z) 0 ≡ false → edge_fits p (edge_in l) ≡ true
        → eqb (kind_by x y z) 3 && not (label_fits p.routines p.automaton.actions (num l 5)) ≡ false
        → Fits p (cond (eqb (kind_by x y z) 1) (Add (step_in l)) (cond (eqb (kind_by x y z) 2) (Drop (step_in l)) (Replace (step_in l) (event_of (num l 5)))))
    go true y z b f g = let h : edge_fits p (edge_of_step (step_in l)) ≡ true = rw (label-number (num l 3)) f in record { old = h; new = h }
    go false true z b f g = let h : edge_fits p (edge_of_step (step_in l)) ≡ true = rw (label-number (num l 3)) f in record { old = h; new = h }
    go false false true b f g =
        record {
          old = rw (label-number (num l 3)) f;
          new = rw (label-number (num l 5))
              (another_label (ltb (num l 1) p.routines) (placed (get_or p.nodes (num l 1) 0) (num l 2) (num l 4)) _ _ f (not-false _ g));
        }
    go false false false b f g = absurd (let z : ◌≡◌ {A = ℕ} 0 1 = cc in omega arith)

pub read_fits : (p : Program) (line : List ℕ) → FitsRead p (read_edit p line)
unfolding read_edit edit_from
read_fits p line = go (bad_line l) (out_of_range p l) (edit_fits p l)
  where
    l : Line
    l = only_line line

    go : (b o : Bool) → (b ≡ false → o ≡ false → Fits p (edit_in l)) → FitsRead p (cond b (Refused 12) (cond o (Refused 13) (Read (edit_in l))))
    go true o h = tt
    go false true h = tt
    go false false h = h refl refl

pub line_keyed : (p : Program) → WellFormed p → (line : List ℕ) → (r : Result Edit Refusal) → edit_read_of r ≡ read_edit p line → IfOk r Keyed
line_keyed p w line (Ok e) h = fits_keyed p w e (rw (← h) at (read_fits p line))
line_keyed p w line (Err n) h = tt
