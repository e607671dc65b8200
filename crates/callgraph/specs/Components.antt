-- Components (paper: groups) of the call graph, and the routines that the inside-out repair reanalyzes (paper:
-- reopens).
use Rattle.std.specs.Prelude.{ℕ, ◌<◌, ◌/◌, ◌%◌, ◌^◌, ◌≡◌, ◌⊎◌, ◌↔◌, ◌≢◌, Bool, not, List, eqb, get_or}
use Rattle.program.specs.Sizes.{max_routines}
use Rattle.automaton.specs.declared.Event.TheVariants.{Call}
use Rattle.program.specs.Program.{Program}
use Rattle.reach.specs.Configurations.{Set}
use Rattle.reach.specs.Runs.{HasStep}
use Rattle.reach.specs.Reachable.{Derivable, Roots, Any, Reachable}

-- ---- components

-- an edge of routine f calls g
pub record CallEdge (p : Program) (f g : ℕ) : Type 0 where
  pub source : ℕ
  pub target : ℕ
  pub edge : HasStep p f source (Call g) target

-- f leads to g by one call or more
pub data Leads (p : Program) : ℕ → ℕ → Type 0 where
  directly : {f g : ℕ} → CallEdge p f g → Leads p f g
  through : {f g h : ℕ} → CallEdge p f g → Leads p g h → Leads p f h

-- f and g are in one component: they call each other in a circle, or are the same routine
abbrev pub Together : Program → ℕ → ℕ → Type 0
Together p f g = (f ≡ g) ⊎ (Leads p f g × Leads p g f)

-- ---- a drop that makes p' of p

-- an old root of a routine
abbrev pub OldRoot : Program → ℕ → ℕ → Type 0
OldRoot p f r = Reachable p f 0 r r

-- the changed program worked anew from all old roots
abbrev pub Anew : Program → Program → Set
Anew p p' = Derivable p' (Roots (OldRoot p)) Any

-- the summaries (paper: pairs) of g, over its old roots, have changed
pub record Changed (p p' : Program) (g : ℕ) : Type 0 where
  pub root : ℕ
  pub state : ℕ
  pub old : OldRoot p g root
  pub differs : (Reachable p g 1 root state × (¬ (Anew p p' g 1 root state)))
      ⊎ (Anew p p' g 1 root state × (¬ (Reachable p g 1 root state)))

-- an edge of g calls a routine outside the component of f whose summaries have changed
pub record CallsChanged (p p' : Program) (f g : ℕ) : Type 0 where
  pub called : ℕ
  pub calls : CallEdge p' g called
  pub outside : ¬ (Together p' f called)
  pub changed : Changed p p' called

-- a routine is reanalyzed if its component, in the changed program, holds the changed routine or calls one outside it
-- whose summaries have changed
pub record Reanalyzed (p p' : Program) (edited f : ℕ) : Type 0 where
  pub member : ℕ
  pub together : Together p' f member
  pub reason : (member ≡ edited) ⊎ CallsChanged p p' f member

-- ---- an add that makes p' of p

-- a routine has gained a configuration
pub record Gained (p p' : Program) (f : ℕ) : Type 0 where
  pub node : ℕ
  pub root : ℕ
  pub state : ℕ
  pub now_there : Reachable p' f node root state
  pub not_before : ¬ (Reachable p f node root state)

-- ---- a set of routines: a flag for each, or a number with bit f for routine f

abbrev pub member_of : List ℕ → ℕ → Bool
member_of members f = not (eqb (get_or members f 0) 0)

abbrev pub Member : List ℕ → ℕ → Type 0
Member members f = get_or members f 0 ≢ 0

pub record Bits (R : ℕ → Type 0) (n : ℕ) : Type 0 where
  pub small : n < 2 ^ max_routines
  pub bit : (f : ℕ) → f < max_routines → (n / 2 ^ f % 2 ≡ 1) ↔ R f
