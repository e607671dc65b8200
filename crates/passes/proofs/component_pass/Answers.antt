-- `passes::component_pass` meets its contract.
use Rattle.passes.proofs.PassDerives.{first_ready, passed}
use Rattle.program.proofs.ProgramRanged.{ranged}
use Rattle.passes.proofs.component_pass.Goals as goal

pub next_states-table-requires : goal.next_states-table-requires
next_states-table-requires c = ranged _ c.requires.well_formed.0

pub rounds-requires : goal.rounds-requires
rounds-requires c =
    let z = c.requires in
    (first_ready z.well_formed.0 z.well_formed.1 z.passable c.reset.ensures, c.next_states-table.ensures)

pub returns : goal.returns
returns c =
    let z = c.requires in
    passed z.well_formed.0 z.well_formed.1 z.passable c.reset.ensures c.rounds.ensures
