use mathlib.Core.Path.{ap, ◌∙◌}
use Rattle.program.specs.Decoded.{program_of}
use Rattle.edit.specs.Editing.{with_edges}
use Rattle.exchange.specs.Changing.{emptied}
use Rattle.exchange.proofs.apply.without_routine.Goals as goal

pub returns : goal.returns
unfolding emptied
returns c =
    let p = c.args.p in
    c.with_edges.ensures ∙ ap (with_edges (program_of p)) c.others_of.ensures.0
