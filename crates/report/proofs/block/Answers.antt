-- `report::block` meets its contract.
use mathlib.Core.Path.{refl, sym, ap, ◌∙◌}
use lib.ListN.{length}
use Rattle.program.specs.Chosen.{numbers}
use Rattle.program.specs.Decoded.{program_of}
use Rattle.analysis.proofs.LimitDecides.{own_sized}
use Rattle.report.proofs.BlocksPut.{no_block, whole_block, refused_block, accepted_block}
use Rattle.report.proofs.block.Goals as goal

pub returns-in_default : goal.returns-in_default
returns-in_default c =
    let z = c.args in
    rw (refused_block z.file.now z.marks.now (length z.output.now) _ _ c.in_default.ensures.verdict) (refl, refl)

pub put_block-requires : goal.put_block-requires
put_block-requires c =
    let k = c.in-Ok.ensures.passed in
    let s = own_sized _ c.sizes_of.ensures k.well_formed in
    (s.usable, s.admitted, k.sized.marks-length ∙ ap numbers (sym c.sizes_of.ensures), c.if-output-lt-BLOCK_SIZE.false)

pub returns-then-output-lt-BLOCK_SIZE : goal.returns-then-output-lt-BLOCK_SIZE
returns-then-output-lt-BLOCK_SIZE c =
    let z = c.args in
    let k = c.in-Ok.ensures in
    rw (accepted_block z.file.now z.marks.now (length z.output.now) c.in-Ok.p k.passed k.verdict)
    (no_block (program_of c.in-Ok.p) z.marks.now z.output.now c.if-output-lt-BLOCK_SIZE.true)

pub returns-else-output-lt-BLOCK_SIZE : goal.returns-else-output-lt-BLOCK_SIZE
returns-else-output-lt-BLOCK_SIZE c =
    let z = c.args in
    let k = c.in-Ok.ensures in
    rw (accepted_block z.file.now z.marks.now (length z.output.now) c.in-Ok.p k.passed k.verdict)
    (whole_block (program_of c.in-Ok.p) z.marks.now z.output.now c.sizes_of.ensures c.if-output-lt-BLOCK_SIZE.false c.put_block.ensures)
