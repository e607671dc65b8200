-- `saved::old::analyze_old` meets its contract.
use mathlib.Core.Path.{sym, ap, subst, ◌∙◌}
use Rattle.program.specs.declared.sizes.Sizes.{Sizes}
use Rattle.program.specs.Chosen.{numbers}
use Rattle.program.specs.Decoded.{program_of}
use Rattle.reach.specs.Ranged.{Sized}
use Rattle.reach.specs.Marks.{fresh_at}
use Rattle.analysis.proofs.LimitDecides.{sized_marks}
use Rattle.saved.proofs.OldSizes.{old_sized}
use Rattle.saved.proofs.old.analyze_old.Goals as goal
use Rattle.saved.proofs.old.analyze_old.Goals.{After-old_sizes-z}

-- the program is within the sizes that it is analyzed in
within : (c : After-old_sizes-z) → Sized c.old_sizes-z.result (program_of c.args.p)
within c =
    subst (λ (y : Sizes). Sized y (program_of c.args.p)) (sym c.old_sizes-z.ensures) (old_sized (program_of c.args.p) c.requires.0 c.requires.1)

pub analyze_program-stop-requires : goal.analyze_program-stop-requires
analyze_program-stop-requires c =
    (c.requires.0, within (goal.at.analyze_program-stop-requires c).After-old_sizes-z, c.requires.2 ∙ ap numbers (sym c.old_sizes-z.ensures))

pub returns : goal.returns
returns c =
    sized_marks (program_of c.args.p) (within (goal.at.returns c).After-old_sizes-z) c.enough_iterations.ensures c.analyze_program-stop.ensures
    ∙ ap (λ (y : Sizes). fresh_at y (program_of c.args.p)) c.old_sizes-z.ensures
