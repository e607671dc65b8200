-- The answer of the keeping and the lent bytes, by what the checks say.
use mathlib.Core.Path.{◌≡◌, subst₂, ◌∙◌}
use mathlib.Core.List.{List}
use Prim.Native.Nat.{ℕ}
use Rattle.program.specs.Program.{Program}
use Rattle.program.specs.Chosen.{sizes_of}
use Rattle.program.specs.Reading.{read_file}
use Rattle.program.specs.Verdicts.{Verdict}
use Rattle.reach.specs.Configurations.{none_set}
use Rattle.analysis.specs.Answers.{checked_marks, on_success, work_after}
use Rattle.prune.specs.Pruning.{Pruned}

pub prune_answered : (file marks work : List ℕ) {v : Verdict} {p : Program} → v ≡ checked_marks file marks work → p ≡ (read_file file).program
    → (new : List ℕ) {left : List ℕ} → Pruned v p marks new → left ≡ on_success v (none_set (sizes_of p)) work
    → (v ≡ checked_marks file marks work) × Pruned (checked_marks file marks work) (read_file file).program marks new × (left ≡ work_after file marks work)
unfolding work_after
prune_answered file marks work v e new s w =
    (v, subst₂ (λ (u : Verdict) (p : Program). Pruned u p marks new) v e s, w ∙ (λ i. on_success (v i) (none_set (sizes_of (e i))) work))
