-- `components::drop::work_component` meets its contract.
use Rattle.callgraph.proofs.ComponentsFromFlags.{component_members}
use Rattle.callgraph.proofs.RoutineSets.{joined_members}
use Rattle.components.proofs.TurnsTaken.{may_pass, component_kept, component_worked}
use Rattle.components.proofs.drop.work_component.Goals as goal

pub is_reanalyzed-requires : goal.is_reanalyzed-requires
is_reanalyzed-requires c =
    let t = c.requires.comes.1 in
    (t.drop.well_formed, t.drop.sized)

pub component_pass-requires : goal.component_pass-requires
component_pass-requires c =
    let t = c.requires.comes.1 in
    let m = c.component-c.ensures in
    let f = c.requires.f_lt_max_routines in
    let is = component_members t.graph f.0 m in
    record {
      well_formed = (t.drop.well_formed, t.drop.sized);
      passable = may_pass c.args.f t f.0 f.1 m.len is;
    }

pub returns-then-is_reanalyzed : goal.returns-then-is_reanalyzed
returns-then-is_reanalyzed c =
    let m = c.component-c.ensures in
    let f = c.requires.f_lt_max_routines in
    λ old t.
    component_worked c.args.f t f.0 f.1 m.len (component_members t.graph f.0 m)
    (c.is_reanalyzed.ensures.if_yes c.if-is_reanalyzed.true) c.component_pass.ensures
    (joined_members t.working.reanalyzed_length c.join-reanalyzed.ensures)
    (joined_members t.working.done_length c.join-done.ensures)

pub returns-else-is_reanalyzed : goal.returns-else-is_reanalyzed
returns-else-is_reanalyzed c =
    let m = c.component-c.ensures in
    let f = c.requires.f_lt_max_routines in
    λ old t.
    component_kept c.args.f t f.0 f.1 m.len (component_members t.graph f.0 m)
    (c.is_reanalyzed.ensures.if_no c.if-is_reanalyzed.false)
    (joined_members t.working.done_length c.join-done.ensures)
