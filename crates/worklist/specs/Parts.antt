-- What the functions that follow what is pending promise of each other; nothing here has to be believed.
use Rattle.std.specs.Prelude.{ℕ, ◌≡◌, Bool, List, leb}
use Rattle.program.specs.declared.sizes.Sizes.{Sizes}
use Rattle.program.specs.Program.{Program}
use Rattle.reach.specs.Worklist.{Worklist, Shape, lowest, work, opened, blank, analysis_at}
use Rattle.marking.specs.Parts.{worklist}
use Rattle.iteration.specs.Parts.{Tables}

-- what is pending in these words, followed by so many iterations at most
abbrev pub followed : Sizes → ℕ → Program → List ℕ → List ℕ → List ℕ → Worklist
followed z limit p marks pending known =
    let s = worklist z marks pending known 0 in
    work z limit p (lowest s.pending 0) s

-- for this program, it can be followed by these tables
pub record Begun (z : Sizes) (p : Program) (keys index next marks pending known : List ℕ) : Type 0 where
  pub tables : Tables z p keys index next
  pub shape : Shape z (worklist z marks pending known 0)

-- the full analysis, by so many iterations at most
unfoldable pub analysis_within : Sizes → ℕ → Program → Worklist
analysis_within z limit p =
    let s = opened z p.automaton.initial (blank z) in
    work z limit p (lowest s.pending 0) s

-- what is left of it: the marks, the count of iterations, and whether the limit is enough
pub record Analyzed (z : Sizes) (p : Program) (limit : ℕ) (m : List ℕ) (n : ℕ) (t : Bool) : Type 0 where
  pub marks : m ≡ (analysis_within z limit p).marks
  pub iterations : n ≡ (analysis_within z limit p).iterations
  pub ended : t ≡ leb (analysis_at z p).iterations limit
