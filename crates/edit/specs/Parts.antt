-- What the functions over edits promise of each other; nothing here has to be believed.
use Rattle.std.specs.Prelude.{ℕ, Bool, cond}
use Rattle.text.specs.Lines.{Bytes}
use Rattle.program.specs.Frames.{edge_frame}
use Rattle.edit.specs.Edits.{old_edge, new_edge}
use Rattle.edit.specs.declared.Edit.{Edit}
use Rattle.edit.specs.declared.Edit.TheVariants.{Add, Drop, Replace}

-- both edges of an edit are of bytes, so that each has a key
pub record Keyed (e : Edit) : Type 0 where
  pub old : Bytes (edge_frame (old_edge e))
  pub new : Bytes (edge_frame (new_edge e))

-- the refusal of an edit (14 to 16), or 0: by whether its old edge is there, whether its new one is, and whether the
-- table is full
abbrev pub refusal_by : Edit → Bool → Bool → Bool → ℕ
refusal_by (Add s) old new full = cond new 15 (cond full 16 0)
refusal_by (Drop s) old new full = cond old 0 14
refusal_by (Replace s l) old new full = cond old (cond new 15 0) 14
