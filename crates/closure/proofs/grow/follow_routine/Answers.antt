-- `closure::grow::follow_routine` meets its contract.
use Rattle.reach.proofs.Numbers.{first_number, routine_fits}
use Rattle.closure.proofs.grow.follow_routine.Goals as goal

pub follow_between-requires : goal.follow_between-requires
follow_between-requires c =
    rw (c.routine_span.ensures.0, c.number_of-low.ensures.0, first_number c.args.z c.args.f)
    (record { well_formed = (c.requires.well_formed.0, c.requires.well_formed.1, routine_fits c.args.z c.args.f c.requires.well_formed.2); closed_but = c.requires.closed_but })
