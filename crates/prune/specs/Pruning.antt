-- To prune (paper: the keeping): of any marks those stay that have support back to main's entry in an initial state,
-- through configurations that are marked.
use Rattle.std.specs.Prelude.{ℕ, ◌≡◌, List}
use Rattle.program.specs.declared.sizes.Sizes.{Sizes}
use Rattle.program.specs.Chosen.{sizes_of}
use Rattle.program.specs.Program.{Program}
use Rattle.program.specs.Verdicts.{Verdict}
use Rattle.program.specs.Verdicts.{Accepted, Refused}
use Rattle.reach.specs.Configurations.{Set}
use Rattle.reach.specs.Reachable.{Derivable, Initial}
use Rattle.reach.specs.Marks.{Marked, Shows}

-- what has support back to main's entry in an initial state, every configuration on the way being marked
abbrev pub Kept : Sizes → Program → List ℕ → Set
Kept z p marks = Derivable p (Initial p) (Marked z marks)

-- the marks afterwards are a 1 at each of these and 0 elsewhere; a refusal leaves them alone
abbrev pub Pruned : Verdict → Program → List ℕ → List ℕ → Type 0
Pruned Accepted p old new = Shows (sizes_of p) (Kept (sizes_of p) p old) new
Pruned (Refused n line) p old new = new ≡ old
