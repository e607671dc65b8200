-- The loop of the inside-out repair after a drop: what holds before each turn; nothing here has to be believed.
use Rattle.std.specs.Prelude.{ℕ, ◌+◌, ◌*◌, ◌≤◌, ◌<◌, ◌≡◌, ◌↔◌, ◌≢◌, List, length, get_or}
use Rattle.automaton.specs.declared.Event.{Event}
use Rattle.program.specs.Sizes.{max_routines}
use Rattle.program.specs.declared.sizes.Sizes.{Sizes}
use Rattle.program.specs.Chosen.{numbers}
use Rattle.program.specs.Program.{Program}
use Rattle.program.specs.WellFormed.{WellFormed}
use Rattle.reach.specs.Runs.{HasStep}
use Rattle.reach.specs.Reachable.{Reachable}
use Rattle.reach.specs.Ranged.{Ranged, Sized}
use Rattle.reach.specs.Marks.{Marked}
use Rattle.reach.specs.Worklist.{summary}
use Rattle.callgraph.specs.Components.{CallEdge, Leads, Together, OldRoot, Anew, Reanalyzed, Member}
use Rattle.callgraph.specs.Parts.{LeadFlags, rank_of}
use Rattle.roots.specs.Parts.{RootFlags}
use Rattle.components.specs.declared.drop.Progress.{Progress}

-- a drop of steps of one routine made p' of p, both within these sizes
pub record DropOf (Z : Sizes) (p p' : Program) (edited : ℕ) : Type 0 where
  pub well_formed : WellFormed p'
  pub old_ranged : Ranged Z p
  pub sized : Sized Z p'
  pub automaton : p'.automaton ≡ p.automaton
  pub steps : {f n m : ℕ} {e : Event} → HasStep p' f n e m → HasStep p f n e m
  pub others : {f n m : ℕ} {e : Event} → f ≢ edited → HasStep p f n e m → HasStep p' f n e m

-- ranks: the same in one component, and lower for what is called outside it
pub record Ranks (p : Program) (rank : ℕ → ℕ) : Type 0 where
  pub low : (f : ℕ) → f < max_routines → 1 ≤ rank f
  pub high : (f : ℕ) → f < max_routines → rank f ≤ max_routines
  pub equal : (f g : ℕ) → f < max_routines → g < max_routines → Together p f g → rank f ≡ rank g
  pub lower : (f g : ℕ) → f < max_routines → g < max_routines → CallEdge p f g → ¬ (Together p f g) → rank g < rank f
  pub decides : (f g : ℕ) → f < max_routines → g < max_routines → Dec (Together p f g)

-- the summaries on the marks before
pub record Before (Z : Sizes) (p : Program) (before : List ℕ) : Type 0 where
  pub flagged : (f r q : ℕ) → f < Z.routines → r < Z.states → q < Z.states
      → (get_or before (summary Z f r q) 0 ≢ 0) ↔ Reachable p f 1 r q

-- the turn of routine f of this rank; the ranks are from 1 to the count of routines
abbrev pub turn_of : (ℕ → ℕ) → ℕ → ℕ
turn_of rank f = rank f * max_routines + f

abbrev pub first_turn : ℕ
first_turn = max_routines

abbrev pub end_turn : ℕ
end_turn = max_routines * max_routines + max_routines

-- turn i comes next: whatever has an earlier turn is done, component by component; what is done has its configurations
-- worked anew, and the rest its old ones
pub record Working (Z : Sizes) (p p' : Program) (edited : ℕ) (rank : ℕ → ℕ) (i : ℕ) (marks done reanalyzed : List ℕ) : Type 0 where
  pub marks-length : length marks ≡ numbers Z
  pub marks_bits : (j : ℕ) → get_or marks j 0 ≤ 1
  pub done_length : length done ≡ max_routines
  pub reanalyzed_length : length reanalyzed ≡ max_routines
  pub earlier : (f : ℕ) → f < max_routines → turn_of rank f < i → Member done f
  pub whole : (f g : ℕ) → f < max_routines → g < max_routines → Member done f → Together p' f g → Member done g
  pub worked : (f n r q : ℕ) → Member done f → Marked Z marks f n r q ↔ Anew p p' f n r q
  pub old : (f n r q : ℕ) → ¬ (Member done f) → Marked Z marks f n r q ↔ Reachable p f n r q
  pub right : (f : ℕ) → f < max_routines → Member done f → Member reanalyzed f ↔ Reanalyzed p p' edited f
  pub none_yet : (f : ℕ) → ¬ (Member done f) → ¬ (Member reanalyzed f)

-- the same, with what stays over all turns: the drop, the flags of the call graph, and the roots and the summaries
-- before
pub record Turning (Z : Sizes) (p p' : Program) (edited : ℕ) (leads roots before : List ℕ) (i : ℕ) (marks done reanalyzed : List ℕ)
    : Type 0 where
  pub drop : DropOf Z p p' edited
  pub graph : LeadFlags (Leads p') leads
  pub old_roots : RootFlags (OldRoot p) roots
  pub old_summaries : Before Z p before
  pub working : Working Z p p' edited (rank_of leads) i marks done reanalyzed

-- for some program before, turn i comes next
abbrev pub Comes : Sizes → Program → ℕ → List ℕ → List ℕ → List ℕ → ℕ → List ℕ → Progress → Type 0
Comes Z p' edited leads roots before i marks g =
    (p : Program) × Turning Z p p' edited leads roots before i marks g.done.flags g.reanalyzed.flags

-- for every program before, if turn i came next, then turn j comes next
abbrev pub Advances : Sizes → Program → ℕ → List ℕ → List ℕ → List ℕ → ℕ → List ℕ → Progress → ℕ → List ℕ → Progress → Type 0
Advances Z p' edited leads roots before i marks g j marks' g' =
    (p : Program) → Turning Z p p' edited leads roots before i marks g.done.flags g.reanalyzed.flags
    → Turning Z p p' edited leads roots before j marks' g'.done.flags g'.reanalyzed.flags
