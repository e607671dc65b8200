-- `closure::grow::follow_added` meets its contract.
use Rattle.reach.proofs.Numbers.{node_fits}
use Rattle.closure.proofs.grow.follow_added.Goals as goal

pub follow_between-requires : goal.follow_between-requires
follow_between-requires c =
    rw (c.node_span.ensures.0, c.number_of-low.ensures.0)
    (record { well_formed = (c.requires.well_formed.0, c.requires.well_formed.1, node_fits c.args.z c.args.f c.args.n c.requires.well_formed.2 c.requires.well_formed.3); closed_but = c.requires.closed_but })
