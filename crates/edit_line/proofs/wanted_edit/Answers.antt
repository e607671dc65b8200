use Rattle.edit_line.proofs.LinesInRange.{line_keyed}
use Rattle.edit_line.proofs.wanted_edit.Goals as goal

pub wanted_by-requires : goal.wanted_by-requires
wanted_by-requires c = line_keyed _ c.requires c.args.line.now _ c.read_edit.ensures
