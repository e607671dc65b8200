-- `writer::put::edge_line` meets its contract.
use mathlib.Core.Path.{ap}
use Rattle.text.specs.Lines.{line_of}
use Rattle.program.specs.Program.{Edge}
use Rattle.program.specs.Frames.{edge_frame}
use Rattle.writer.proofs.put.edge_line.Goals as goal

pub returns : goal.returns
returns c = ap (λ (e : Edge). line_of (edge_frame e)) c.edge-e.ensures
