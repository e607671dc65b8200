-- The iterations of the full analysis one by one (paper: the takings), and how often a configuration is taken.
use Rattle.std.specs.Prelude.{ℕ, zero, suc, ◌+◌, cond, List, [], ◌∷◌, eqb}
use Rattle.std.proofs.Math.Option.{Option, none, some}
use Rattle.program.specs.declared.sizes.Sizes.{Sizes}
use Rattle.program.specs.Chosen.{sizes_of}
use Rattle.reach.specs.Sizes.{enough_iterations}
use Rattle.program.specs.Program.{Program}
use Rattle.reach.specs.Worklist.{Worklist, lowest, take_one, opened, blank}

module _ (Z : Sizes) where
  -- the numbers that the procedure takes from a worklist on, in order; k bounds the iterations
  unfoldable pub taken : ℕ → Program → Option ℕ → Worklist → List ℕ
  taken zero p o s = []
  taken (suc k) p none s = []
  taken (suc k) p (some i) s = let t = take_one Z p i s in i ∷ taken k p (lowest t.pending 0) t

  -- those of the full analysis, in these sizes
  unfoldable pub taken_at : Program → List ℕ
  taken_at p = let s = opened Z p.automaton.initial (blank Z) in taken (enough_iterations Z) p (lowest s.pending 0) s

-- those of the full analysis
abbrev pub taken_in : Program → List ℕ
taken_in p = taken_at (sizes_of p) p

-- how often j is in a list
unfoldable pub times : ℕ → List ℕ → ℕ
times j [] = 0
times j (i ∷ is) = cond (eqb i j) 1 0 + times j is
