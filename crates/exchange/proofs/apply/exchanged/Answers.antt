use mathlib.Core.Path.{◌≡◌, ap, ◌∙◌}
use mathlib.Core.List.{map}
use Rattle.program.specs.Decoded.{edge_keys_of, edge_of, program_of}
use Rattle.exchange.specs.Changing.{others, inserted_all, exchanged_program}
use Rattle.exchange.proofs.OtherRoutines.{none_own}
use Rattle.exchange.proofs.EdgesJoined.{all_joined}
use Rattle.exchange.proofs.apply.exchanged.Goals as goal

pub returns : goal.returns
unfolding exchanged_program
returns c =
    let x = c.args.x in
    let new = edge_keys_of x.edges in
    let rest = c.others_of-rest.ensures.0 in
    let edges : map edge_of (edge_keys_of c.joined-edges.result) ≡ inserted_all (map edge_of new) (others x.routine (program_of c.args.p).edges) =
    ap (map edge_of) c.joined-edges.ensures
    ∙ all_joined c.first_key.ensures c.first_from-at.ensures (rw rest (none_own x.routine (program_of c.args.p).edges)) 0 new
    c.requires.edges_own c.requires.edges_ascend
    ∙ ap (inserted_all (map edge_of new)) rest in
    rw (c.with_nodes-nodes.ensures, edges)
