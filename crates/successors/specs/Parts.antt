-- What the functions that follow one configuration promise of each other; nothing here has to be believed.
use Rattle.std.specs.Prelude.{ℕ, cond, ◌&&◌, List, eqb, ltb}
use Rattle.automaton.specs.Automaton.{call_of, return_of}
use Rattle.automaton.specs.NextStates.{set_at}
use Rattle.base.specs.Bits.{bit}
use Rattle.base.specs.Flags.{is_set}
use Rattle.program.specs.Sizes.{max_routines}
use Rattle.program.specs.Program.{Edge, is_call, called_by}
use Rattle.program.specs.declared.sizes.Sizes.{Sizes}
use Rattle.reach.specs.Configurations.{number}
use Rattle.reach.specs.Worklist.{Worklist, mark, summary}
use Rattle.words.specs.Words.{flags_of}
use Rattle.marking.specs.Parts.{each, mark_state}

-- the results of label l in state q are marked
abbrev pub move_step : ℕ → List ℕ → ℕ → ℕ → ℕ → Worklist → Worklist
move_step states next base q l s = each (mark_state (set_at next q l) base) states 0 s

module _ (z : Sizes) where
  -- where the summary (y, x) of g is known, the results of its return are marked
  abbrev pub summary_step : List ℕ → List ℕ → ℕ → ℕ → ℕ → ℕ → Worklist → Worklist
  summary_step next known base g y x s =
      cond (is_set (flags_of known) (summary z g y x)) (move_step z.states next base x (return_of g) s) s

  -- a call of g that gives root y marks the entry with that root, and what its known summaries give
  abbrev pub entry_step : List ℕ → List ℕ → ℕ → ℕ → ℕ → Worklist → Worklist
  entry_step next known base g y s = each (summary_step next known base g y) z.states 0 (mark (number z g 0 y y) s)

  -- where a call of g can lead from state q to root y, it gives that root
  abbrev pub root_step : List ℕ → List ℕ → ℕ → ℕ → ℕ → ℕ → Worklist → Worklist
  root_step next known base g q y s = cond (bit y (set_at next q (call_of g))) (entry_step next known base g y s) s

  -- a call of g in state q: every root in turn
  abbrev pub call_step : List ℕ → List ℕ → ℕ → ℕ → ℕ → Worklist → Worklist
  call_step next known base g q s = each (root_step next known base g q) z.states 0 s

  -- what an edge's label marks: the results of an action, or those of a call
  unfoldable pub label_step : List ℕ → List ℕ → ℕ → ℕ → ℕ → Worklist → Worklist
  label_step next known base q label s =
      cond (is_call label) (cond (ltb (called_by label) max_routines) (call_step next known base (called_by label) q s) s)
      (move_step z.states next base q label s)

  unfoldable pub edge_step : List ℕ → List ℕ → ℕ → ℕ → ℕ → ℕ → Edge → Worklist → Worklist
  edge_step next known f n r q e s =
      cond (eqb e.routine f && eqb e.source n) (label_step next known (number z f e.target r 0) q e.label s) s
