-- `analysis::analyze_counts` meets its contract: what is handed over was worked out in the working buffer, which is cleared then.
use Rattle.reach.proofs.MarksCopied.{cleared_is}
use mathlib.Core.Path.{sym, ap, ◌∙◌}
use Rattle.program.specs.Chosen.{sizes_of, numbers}
use Rattle.program.specs.Decoded.{program_of}
use Rattle.analysis.proofs.LimitDecides.{own_sized}
use Rattle.analysis.proofs.analyze_counts.Goals as goal

pub analyze_program-stop-requires : goal.analyze_program-stop-requires
analyze_program-stop-requires c =
    let e = c.sizes_of-z.ensures in
    (c.requires.well_formed, own_sized (program_of c.args.p) e c.requires.well_formed, c.requires.marks_len.1 ∙ ap numbers (sym e))

pub returns : goal.returns
returns c =
    let h = c.hand_over-answer.ensures in
    (h.0, h.1, cleared_is (sizes_of (program_of c.args.p)) c.clear.ensures (c.analyze_program-stop.auto.marks ∙ c.requires.marks_len.1))
