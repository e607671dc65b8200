-- What the searches over states ask of the kept configurations; nothing here has to be believed.
use Rattle.std.specs.Prelude.{ℕ, ◌+◌, ◌*◌, Bool, false, cond, ◌&&◌, List, ltb}
use Rattle.program.specs.Sizes.{max_routines}
use Rattle.program.specs.declared.sizes.Sizes.{Sizes}
use Rattle.base.specs.Searches.{any_from}
use Rattle.base.specs.Bits.{bit}
use Rattle.base.specs.Flags.{is_set}
use Rattle.program.specs.Program.{Edge}
use Rattle.automaton.specs.Automaton.{call_of, return_of}
use Rattle.automaton.specs.NextStates.{set_at}
use Rattle.reach.specs.Configurations.{number}

-- the configuration from this number on is kept in state x, and label l may lead from x to t
unfoldable pub move_kept : List ℕ → List ℕ → ℕ → ℕ → ℕ → ℕ → Bool
move_kept next kept base x l t = is_set kept (base + x) && bit t (set_at next x l)

module _ (Z : Sizes) where
  -- some root of the configurations from this number on is kept
  unfoldable pub root_kept : List ℕ → ℕ → Bool
  root_kept kept base = any_from (λ x. is_set kept (base + Z.states * x)) Z.states 0

  -- from some state the edge's call gives root r, and its source is kept in that state
  unfoldable pub caller_kept : List ℕ → List ℕ → Edge → ℕ → Bool
  caller_kept next kept e r =
      any_from (λ x. bit r (set_at next x e.label) && root_kept kept (number Z e.routine e.source 0 x)) Z.states 0

  -- for some state the exit from this number on is kept in it, and a return of label l leads from it to t
  unfoldable pub exit_kept : List ℕ → List ℕ → ℕ → ℕ → ℕ → Bool
  exit_kept next kept exit l t = any_from (λ x. move_kept next kept exit x l t) Z.states 0

  -- from state y the call of g gives some root with which g returns to state t
  unfoldable pub root_returns : List ℕ → List ℕ → ℕ → ℕ → ℕ → Bool
  root_returns next kept y g t =
      any_from (λ s. bit s (set_at next y (call_of g)) && exit_kept next kept (number Z g 1 s 0) (return_of g) t) Z.states 0

  -- for some state the caller from this number on is kept in it, and a call of g from it returns to state t
  unfoldable pub return_kept : List ℕ → List ℕ → ℕ → ℕ → ℕ → Bool
  return_kept next kept caller g t =
      cond (ltb g max_routines) (any_from (λ y. is_set kept (caller + y) && root_returns next kept y g t) Z.states 0) false
