-- What is proved of edits.
use mathlib.Core.Path.{◌≡◌, refl}
use Prim.Native.Nat.{◌<◌}
use lib.ListN.{length}
use Rattle.text.specs.Lines.{Bytes}
use Rattle.program.specs.Sizes.{max_edges}
use Rattle.program.specs.Program.{Program}
use Rattle.program.specs.Frames.{edge_frame}
use Rattle.program.specs.WellFormed.{WellFormed}
use Rattle.program.specs.Writing.{written}
use Rattle.program.specs.Reading.{accepted, read_file}
use Rattle.program.proofs.FramesFitBytes.{edge_bytes}
use Rattle.program.proofs.Theorems.{read_again}
use Rattle.edit.specs.Edits.{edge_of_step, relabelled}
use Rattle.edit.specs.Editing.{inserted, without, with_edges, edited_program, Applies}
use Rattle.edit.specs.declared.Label.{Label}
use Rattle.edit.specs.declared.Step.{Step}
use Rattle.edit.specs.declared.Edit.{Edit}
use Rattle.edit.specs.declared.Edit.TheVariants.{Add, Drop, Replace}
use Rattle.edit.proofs.EditsWellFormed.{edited_well_formed}
use Rattle.edit.proofs.EditRefusals.{drop_not_refused, add_not_refused, room_left}

-- An edit that applies keeps a program well-formed.
pub applied_well_formed : (e : Edit) (p : Program) → WellFormed p → Applies e p → WellFormed (edited_program e p)
applied_well_formed e p w a = edited_well_formed e p w a.old_fits a.new_fits a.not_refused

-- The edited program, written, is accepted and read as that program.
pub edited_read : (e : Edit) (p : Program) → WellFormed p → Applies e p → read_file (written (edited_program e p)) ≡ accepted (edited_program e p)
edited_read e p w a = read_again (edited_program e p) (applied_well_formed e p w a)

-- An add is one step more, a drop is one less.
module _ (s : Step) (p : Program) where
  pub added_is : edited_program (Add s) p ≡ with_edges p (inserted (edge_of_step s) p.edges)
  unfolding edited_program
  added_is = refl

  pub dropped_is : edited_program (Drop s) p ≡ with_edges p (without (edge_of_step s) p.edges)
  unfolding edited_program
  dropped_is = refl

-- A replace is a drop of the step, and then an add of the step with the new label.
pub replaced_is : (s : Step) (l : Label) (p : Program) → edited_program (Replace s l) p ≡ edited_program (Add (relabelled s l)) (edited_program (Drop s) p)
unfolding edited_program
replaced_is s l p = refl

-- Where the replace applies, so does that drop, and then that add.
pub drop_applies : (s : Step) (l : Label) (p : Program) → Applies (Replace s l) p → Applies (Drop s) p
drop_applies s l p a = record { old_fits = a.old_fits; new_fits = a.old_fits; not_refused = drop_not_refused s l p.edges a.not_refused }

pub add_applies : (s : Step) (l : Label) (p : Program) → WellFormed p → Applies (Replace s l) p → Applies (Add (relabelled s l)) (edited_program (Drop s) p)
unfolding edited_program
add_applies s l p w a =
    record {
      old_fits = a.new_fits;
      new_fits = a.new_fits;
      not_refused = add_not_refused s l p.edges w.edges_limited a.not_refused;
    }

-- A step that is to be added is of bytes, and there is room for it; a step that is to be dropped is of bytes.
pub add_ready : (s : Step) (p : Program) → WellFormed p → Applies (Add s) p → Bytes (edge_frame (edge_of_step s)) × (length p.edges < max_edges)
add_ready s p w a = (edge_bytes p w (edge_of_step s) a.old_fits, room_left s p.edges a.not_refused)

pub drop_ready : (s : Step) (p : Program) → WellFormed p → Applies (Drop s) p → Bytes (edge_frame (edge_of_step s))
drop_ready s p w a = edge_bytes p w (edge_of_step s) a.old_fits
