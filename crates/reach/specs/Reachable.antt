-- The least set of configurations that has the seeds and is closed under actions, calls and returns, all within a
-- filter.
use Rattle.std.specs.Prelude.{ℕ}
use mathlib.Core.List.{Memᴰ}
use Rattle.automaton.specs.declared.Event.TheVariants.{Action, Call, Return}
use Rattle.program.specs.Program.{Program}
use Rattle.reach.specs.Configurations.{Set}
use Rattle.reach.specs.Runs.{HasStep, Moves}

pub data Derivable (p : Program) (seed : Set) (within : Set) : ℕ → ℕ → ℕ → ℕ → Type 0 where
  seeded : {f n r q : ℕ} → seed f n r q → within f n r q → Derivable p seed within f n r q
  by_action : {f n r q a m s : ℕ} → Derivable p seed within f n r q → HasStep p f n (Action a) m
      → Moves p q (Action a) s
      → within f m r s → Derivable p seed within f m r s
  by_call : {f n r q g m s : ℕ} → Derivable p seed within f n r q → HasStep p f n (Call g) m → Moves p q (Call g) s
      → within g 0 s s → Derivable p seed within g 0 s s
  by_return : {f n r q g m s x t : ℕ} → Derivable p seed within f n r q → HasStep p f n (Call g) m
      → Moves p q (Call g) s
      → Derivable p seed within g 1 s x → Moves p x (Return g) t → within f m r t → Derivable p seed within f m r t

-- the seeds of a fresh working: main's entry in each initial state
pub data Initial (p : Program) : ℕ → ℕ → ℕ → ℕ → Type 0 where
  initial : {q : ℕ} → Memᴰ q p.automaton.initial → Initial p 0 0 q q

-- the entries of routines with roots R
pub data Roots (R : ℕ → ℕ → Type 0) : ℕ → ℕ → ℕ → ℕ → Type 0 where
  root : {f r : ℕ} → R f r → Roots R f 0 r r

-- no filter
abbrev pub Any : Set
Any f n r q = Unit {0}

-- the reachable configurations
abbrev pub Reachable : Program → Set
Reachable p = Derivable p (Initial p) Any

-- some configuration of S has a step of f that calls g, with s the root of the called one
pub record Calls (p : Program) (S : Set) (f g s : ℕ) : Type 0 where
  pub node : ℕ
  pub root : ℕ
  pub state : ℕ
  pub target : ℕ
  pub holds : S f node root state
  pub calls : HasStep p f node (Call g) target
  pub moves : Moves p state (Call g) s

-- what follows at once from a configuration of S is in S: by an action, by a call, and by a return over an exit of S
pub record ClosedAt (p : Program) (S : Set) (f n r q : ℕ) : Type 0 where
  pub acts : {a m s : ℕ} → HasStep p f n (Action a) m → Moves p q (Action a) s → S f m r s
  pub calls : {g m s : ℕ} → HasStep p f n (Call g) m → Moves p q (Call g) s → S g 0 s s
  pub returns : {g m s x t : ℕ} → HasStep p f n (Call g) m → Moves p q (Call g) s → S g 1 s x → Moves p x (Return g) t
      → S f m r t
