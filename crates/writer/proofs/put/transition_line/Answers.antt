-- `writer::put::transition_line` meets its contract.
use Rattle.writer.proofs.put.transition_line.Goals as goal

pub returns : goal.returns
returns c =
    let t = c.transition-t.ensures in
    rw (t.0, t.1, t.2)
