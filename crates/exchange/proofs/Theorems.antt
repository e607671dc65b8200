-- What is proved of changes.
use Prim.Native.Nat.{ℕ}
use mathlib.Core.Path.{◌≡◌, refl}
use Rattle.program.specs.Program.{Program}
use Rattle.program.specs.WellFormed.{WellFormed}
use Rattle.program.specs.Writing.{written}
use Rattle.program.specs.Reading.{accepted, read_file}
use Rattle.program.proofs.Theorems.{read_again}
use Rattle.edit.specs.Editing.{with_edges}
use Rattle.edit.proofs.Theorems.{applied_well_formed}
use Rattle.exchange.specs.Changes.{Exchange, Change, step, whole}
use Rattle.exchange.specs.Changing.{others, inserted_all, with_nodes, emptied, exchanged_program, changed_program}
use Rattle.exchange.specs.Wanted.{Fits, ChangeApplies}
use Rattle.exchange.proofs.ExchangesWellFormed as laws

-- An exchange that is not refused keeps a program well-formed, and so does its first half.
pub emptied_well_formed : (f : ℕ) (p : Program) → WellFormed p → WellFormed (emptied f p)
emptied_well_formed = laws.emptied_well_formed

pub exchanged_well_formed : (x : Exchange) (p : Program) → WellFormed p → Fits x p → WellFormed (exchanged_program x p)
exchanged_well_formed = laws.exchanged_well_formed

-- A change that is not refused keeps a program well-formed.
pub changed_well_formed : (c : Change) (p : Program) → WellFormed p → ChangeApplies c p → WellFormed (changed_program c p)
changed_well_formed (step e) p w a = applied_well_formed e p w a
changed_well_formed (whole x) p w a = exchanged_well_formed x p w a

-- The changed program, written, is accepted and read as that program.
pub changed_read : (c : Change) (p : Program) → WellFormed p → ChangeApplies c p → read_file (written (changed_program c p)) ≡ accepted (changed_program c p)
changed_read c p w a = read_again (changed_program c p) (changed_well_formed c p w a)

-- An exchange drops all old edges of its routine, and then adds all new ones.
pub emptied_is : (f : ℕ) (p : Program) → emptied f p ≡ with_edges p (others f p.edges)
unfolding emptied
emptied_is f p = refl

pub exchanged_is : (x : Exchange) (p : Program)
    → exchanged_program x p ≡ with_edges (with_nodes p x.routine x.nodes) (inserted_all x.edges (others x.routine p.edges))
unfolding exchanged_program
exchanged_is x p = refl
