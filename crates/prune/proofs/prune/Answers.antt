-- `prune::prune` meets its contract.
use Rattle.std.proofs.lemmas.Result.{err_from_is_err_and}
use mathlib.Core.Path.{◌≡◌, refl, sym, ap, subst, ◌∙◌}
use Rattle.program.specs.declared.sizes.Sizes.{Sizes}
use mathlib.Core.List.{List}
use Prim.Native.Nat.{ℕ}
use Rattle.program.specs.Program.{Program}
use Rattle.program.specs.Chosen.{numbers}
use Rattle.reach.specs.Configurations.{none_set}
use Rattle.reach.specs.Marks.{Shows}
use Rattle.prune.specs.Pruning.{Kept}
use Rattle.analysis.proofs.LimitDecides.{own_sized}
use Rattle.prune.proofs.PruneAnswers.{prune_answered}
use Rattle.prune.proofs.prune.Goals as goal

pub prune_program-requires : goal.prune_program-requires
prune_program-requires c =
    let e = c.sizes_of.ensures in
    let k = c.in_ok-p.ensures.passed in
    record {
      well_formed = (k.well_formed, own_sized _ e k.well_formed);
      marks_len = (k.sized.marks-length ∙ ap numbers (sym e), k.sized.work_length ∙ ap numbers (sym e));
    }

-- what is shown for the sizes asked is shown for the program's own
shown_at : (p : Program) (marks : List ℕ) {y x : Sizes} (l : List ℕ) → y ≡ x → Shows y (Kept y p marks) l → Shows x (Kept x p marks) l
shown_at p marks l e s = subst (λ (w : Sizes). Shows w (Kept w p marks) l) e s

pub returns-in_err-p : goal.returns-in_err-p
returns-in_err-p c =
    let z = c.args in
    let p = err_from_is_err_and c.from_residual.result c.from_residual.ensures.1 in
    rw (p.1, p.2) (prune_answered z.file.now z.marks.now z.work.now c.in_err-p.ensures.verdict refl _ refl refl)

pub returns : goal.returns
returns c =
    let e = c.sizes_of.ensures in
    let z = c.args in
    let k = c.in_ok-p.ensures in
    let a = c.prune_program.ensures in
    prune_answered z.file.now z.marks.now z.work.now k.verdict k.passed.program _ (shown_at _ z.marks.now _ e a.0) (a.1 ∙ ap none_set e)
