-- A program after an edit, and the refusals 14 to 16.
use Rattle.std.specs.Prelude.{ℕ, ◌≡◌, Bool, true, false, cond, ◌&&◌, ◌||◌, List, [], ◌∷◌, ltb, leb, eqb, length}
use Rattle.program.specs.Sizes.{max_edges}
use Rattle.program.specs.Program.{Edge, Program, edge_fits}
use Rattle.program.specs.Frames.{edge_key}
use Rattle.edit.specs.Edits.{old_edge, new_edge}
use Rattle.edit.specs.declared.Edit.{Edit}
use Rattle.edit.specs.declared.Edit.TheVariants.{Add, Drop, Replace}
use Rattle.edit.specs.EditReads.{EditRead}
use Rattle.edit.specs.EditReads.{Read, Refused}

-- the same edge
abbrev pub same_edge : Edge → Edge → Bool
same_edge e d =
    eqb e.routine d.routine && eqb e.source d.source && eqb e.label d.label
    && eqb e.target d.target

unfoldable pub has_edge : Edge → List Edge → Bool
has_edge e [] = false
has_edge e (d ∷ ds) = same_edge e d || has_edge e ds

-- without this edge
unfoldable pub without : Edge → List Edge → List Edge
without e [] = []
without e (d ∷ ds) = cond (same_edge e d) (without e ds) (d ∷ without e ds)

-- with this edge too, before the first that is above it
unfoldable pub inserted : Edge → List Edge → List Edge
inserted e [] = e ∷ []
inserted e (d ∷ ds) = cond (ltb (edge_key e) (edge_key d)) (e ∷ d ∷ ds) (d ∷ inserted e ds)

abbrev pub with_edges : Program → List Edge → Program
with_edges p es = record { routines = p.routines; nodes = p.nodes; edges = es; automaton = p.automaton }

-- 14: drop or replace, and the step is not there; 15: add or replace, and the wanted step is there; 16: add, and the
-- table is full
abbrev pub edit_refusal : Edit → List Edge → ℕ
edit_refusal (Add s) es = cond (has_edge (new_edge (Add s)) es) 15 (cond (leb max_edges (length es)) 16 0)
edit_refusal (Drop s) es = cond (has_edge (old_edge (Drop s)) es) 0 14
edit_refusal (Replace s l) es = cond (has_edge (old_edge (Replace s l)) es)
    (cond (has_edge (new_edge (Replace s l)) es) 15 0) 14

-- the edges after an edit that is not refused
abbrev pub edited_edges : Edit → List Edge → List Edge
edited_edges (Add s) es = inserted (new_edge (Add s)) es
edited_edges (Drop s) es = without (old_edge (Drop s)) es
edited_edges (Replace s l) es = inserted (new_edge (Replace s l)) (without (old_edge (Replace s l)) es)

unfoldable pub edited_program : Edit → Program → Program
edited_program e p = with_edges p (edited_edges e p.edges)

-- an edit that was read, or the first refusal of 14 to 16 that it meets; a refusal stays
abbrev pub wanted_by : EditRead → List Edge → EditRead
wanted_by (Read e) es = cond (eqb (edit_refusal e es) 0) (Read e) (Refused (edit_refusal e es))
wanted_by (Refused n) es = Refused n

-- an edit that is not refused: its edges are in range, and it meets none of 14 to 16
pub record Applies (e : Edit) (p : Program) : Type 0 where
  pub old_fits : edge_fits p (old_edge e) ≡ true
  pub new_fits : edge_fits p (new_edge e) ≡ true
  pub not_refused : edit_refusal e p.edges ≡ 0
