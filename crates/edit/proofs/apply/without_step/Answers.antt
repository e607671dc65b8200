use mathlib.Core.Path.{ap, ◌∙◌}
use mathlib.Core.List.{map}
use Rattle.program.specs.Decoded.{edge_keys_of, edge_of, program_of}
use Rattle.edit.specs.Editing.{with_edges}
use Rattle.edit.proofs.KeysOfEdges.{edges_without}
use Rattle.edit.proofs.apply.without_step.Goals as goal

pub returns : goal.returns
returns c =
    let p = c.args.p in
    c.with_edges.ensures
    ∙ ap (with_edges (program_of p))
    (ap (map edge_of) c.remove_key-count.ensures.are ∙ edges_without c.step_key.result (edge_keys_of p.edges) ∙ rw c.step_key.ensures)
