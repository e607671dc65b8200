use mathlib.Core.Path.{ap, ◌∙◌}
use Rattle.rows.specs.Rows.{TableRow, row_fits}
use Rattle.ranges.specs.Limits.{limits_of}
use Rattle.ranges.proofs.is_row_in_range.Goals as goal

pub returns : goal.returns
returns c =
    c.row_fits.ensures ∙ ap (λ (x : TableRow). row_fits (limits_of c.args.h).automaton x) c.row_in.ensures
