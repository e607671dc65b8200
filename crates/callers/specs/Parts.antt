-- What the functions that wake the callers of a routine promise of each other; nothing here has to be believed.
use Rattle.std.specs.Prelude.{ℕ, cond, ◌&&◌, List, eqb}
use Rattle.automaton.specs.NextStates.{set_at}
use Rattle.base.specs.Bits.{bit}
use Rattle.program.specs.Program.{Edge, is_call, called_by}
use Rattle.program.specs.declared.sizes.Sizes.{Sizes}
use Rattle.reach.specs.Configurations.{number}
use Rattle.reach.specs.Worklist.{Worklist}
use Rattle.marking.specs.Parts.{each, wake_at}

module _ (z : Sizes) where
  -- where a call can lead from state x to root r, what is at its node in that state is woken
  abbrev pub state_step : List ℕ → ℕ → Edge → ℕ → Worklist → Worklist
  state_step next r e x s =
      cond (bit r (set_at next x e.label)) (each (wake_at z.states (number z e.routine e.source 0 x)) z.states 0 s) s

  -- what an edge that calls f wakes
  unfoldable pub caller_step : List ℕ → ℕ → ℕ → Edge → Worklist → Worklist
  caller_step next f r e s =
      cond (is_call e.label && eqb (called_by e.label) f) (each (state_step next r e) z.states 0 s) s
