-- What the functions of the pass over a component promise of each other; nothing here has to be believed.
use Rattle.std.specs.Prelude.{ℕ, ◌≤◌, ◌<◌, ◌≡◌, Bool, cond, ◌&&◌, List, eqb, length, get_or}
use Rattle.base.specs.Flags.{is_set}
use Rattle.automaton.specs.declared.Event.TheVariants.{Call}
use Rattle.program.specs.declared.sizes.Sizes.{Sizes}
use Rattle.program.specs.Chosen.{numbers}
use Rattle.program.specs.Program.{Program}
use Rattle.program.specs.WellFormed.{WellFormed}
use Rattle.reach.specs.Configurations.{Set, Sub, routine_of, node_of, root_of, state_of, root_place}
use Rattle.reach.specs.Runs.{HasStep, Moves}
use Rattle.reach.specs.Reachable.{Derivable, Any}
use Rattle.reach.specs.Ranged.{Sized}
use Rattle.reach.specs.Marks.{Marked}
use Rattle.callgraph.specs.Components.{member_of, Member}
use Rattle.roots.specs.Roots.{RootOf}
use Rattle.passes.specs.Passes.{only_of, PassOf}

-- a pass may begin: what is marked and the roots are in states of the automaton, the roots of routines within the
-- sizes, and the entries that the routines call
-- outside, in the states after the calls' moves, are marked
pub record Passable (Z : Sizes) (p : Program) (members roots marks : List ℕ) : Type 0 where
  pub marks-length : length marks ≡ numbers Z
  pub marks_bits : (i : ℕ) → get_or marks i 0 ≤ 1
  pub states : {f n r q : ℕ} → Marked Z marks f n r q → q < p.automaton.states
  pub root_routines : {f r : ℕ} → RootOf roots f r → f < Z.routines
  pub root_states : {f r : ℕ} → RootOf roots f r → r < p.automaton.states
  pub covered : {f n r q g m s : ℕ} → Member members f → PassOf Z p members roots marks f n r q → HasStep p f n (Call g) m
      → Moves p q (Call g) s → ¬ (Member members g) → Marked Z marks g 0 s s

-- 1 at the entry of a routine with one of its roots
abbrev pub root_mark : List ℕ → ℕ → ℕ → ℕ → ℕ → ℕ
root_mark roots f n r q = cond (eqb n 0 && eqb r q && is_set roots (root_place f q)) 1 0

-- the mark of a configuration at the start of a pass: of these routines, only their entries with their roots are marked
abbrev pub first_of : List ℕ → List ℕ → ℕ → ℕ → ℕ → ℕ → ℕ → ℕ
first_of members roots old f n r q = cond (member_of members f) (root_mark roots f n r q) old

-- that of number i
abbrev pub first_mark : Sizes → List ℕ → List ℕ → ℕ → ℕ → ℕ
first_mark Z members roots old i =
    first_of members roots old (routine_of Z i) (node_of Z i) (root_of Z i) (state_of Z i)

-- those of all numbers, by the marks before
abbrev pub first_marks : Sizes → List ℕ → List ℕ → List ℕ → ℕ → ℕ
first_marks Z members roots marks i = first_mark Z members roots (get_or marks i 0) i

abbrev pub is : ℕ → ℕ → Bool
is f g = eqb g f

-- marks from which a pass may go on
pub record Ready (Z : Sizes) (p : Program) (marks : List ℕ) : Type 0 where
  pub well_formed : WellFormed p
  pub sized : Sized Z p
  pub marks-length : length marks ≡ numbers Z
  pub marks_bits : (i : ℕ) → get_or marks i 0 ≤ 1
  pub states : {f n r q : ℕ} → Marked Z marks f n r q → q < p.automaton.states

-- what follows from some marks by the edges of routine f
abbrev pub ByRoutine : Sizes → Program → ℕ → List ℕ → Set
ByRoutine Z p f marks = Derivable (only_of (is f) p) (Marked Z marks) Any

-- what follows from some marks by the edges of these routines
abbrev pub ByMembers : Sizes → Program → List ℕ → List ℕ → Set
ByMembers Z p members marks = Derivable (only_of (member_of members) p) (Marked Z marks) Any

-- marks that have grown by the edges of these routines
pub record Grows (Z : Sizes) (p : Program) (members marks marks' : List ℕ) : Type 0 where
  pub marks-length : length marks' ≡ numbers Z
  pub marks_bits : (i : ℕ) → get_or marks' i 0 ≤ 1
  pub keeps : Sub (Marked Z marks) (Marked Z marks')
  pub sound : Sub (Marked Z marks') (ByMembers Z p members marks)

-- if nothing was marked, the marks are closed under the edges of these routines below n
pub record Round (Z : Sizes) (p : Program) (members : List ℕ) (n : ℕ) (marks marks' : List ℕ) : Type 0 where
  pub grows : Grows Z p members marks marks'
  pub closed : Sub (Marked Z marks') (Marked Z marks) → (f : ℕ) → f < n → Member members f
      → Sub (ByRoutine Z p f marks) (Marked Z marks)

-- the turn of routine f, if it is one of these
pub record Turn (Z : Sizes) (p : Program) (members : List ℕ) (f : ℕ) (marks marks' : List ℕ) : Type 0 where
  pub grows : Grows Z p members marks marks'
  pub closed : Member members f → Sub (ByRoutine Z p f marks) (Marked Z marks')
