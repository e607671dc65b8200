-- `inside_out::rework_edit` meets its contract.
use Rattle.inside_out.proofs.rework_edit.Goals as goal

pub add_step_inside_out-requires : goal.add_step_inside_out-requires
add_step_inside_out-requires c =
    record { well_formed = (c.requires.well_formed.0, rw c.in-Add.is at c.requires.well_formed.1, c.requires.well_formed.2); marks_value = c.requires.marks_value }

pub drop_step_inside_out-requires : goal.drop_step_inside_out-requires
drop_step_inside_out-requires c =
    record { well_formed = (c.requires.well_formed.0, rw c.in-Drop.is at c.requires.well_formed.1, c.requires.well_formed.2); marks_value = c.requires.marks_value }

pub replace_step_inside_out-requires : goal.replace_step_inside_out-requires
replace_step_inside_out-requires c =
    record { well_formed = (c.requires.well_formed.0, rw c.in-Replace.is at c.requires.well_formed.1, c.requires.well_formed.2); marks_value = c.requires.marks_value }

pub returns-in-Add : goal.returns-in-Add
returns-in-Add c = rw c.in-Add.is c.add_step_inside_out.ensures

pub returns-in-Drop : goal.returns-in-Drop
returns-in-Drop c = rw c.in-Drop.is c.drop_step_inside_out.ensures

pub returns-in-Replace : goal.returns-in-Replace
returns-in-Replace c = rw c.in-Replace.is c.replace_step_inside_out.ensures
