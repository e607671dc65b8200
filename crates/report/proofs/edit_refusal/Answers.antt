-- `report::edit_refusal` meets its contract.
use mathlib.Core.Path.{◌≡◌, ap}
use mathlib.Core.List.{[], ◌∷◌}
use native.Mathlib.Omega.{arith}
use lib.ListN.{take}
use Rattle.text.specs.declared.Line.{Line}
use Rattle.report.proofs.BlocksPut.{no_line_printed, line_printed}
use Rattle.report.proofs.edit_refusal.Goals as goal

pub returns-then-output-lt-LINE_SIZE : goal.returns-then-output-lt-LINE_SIZE
returns-then-output-lt-LINE_SIZE c = no_line_printed _ _ c.if-output-lt-LINE_SIZE.true

pub put_line-requires : goal.put_line-requires
put_line-requires c =
    let n : c.edit_refusal_line-l.result.count ≡ 2 = ap (λ (l : Line). l.count) c.edit_refusal_line-l.ensures in
    omega arith

pub returns-else-output-lt-LINE_SIZE : goal.returns-else-output-lt-LINE_SIZE
returns-else-output-lt-LINE_SIZE c =
    let e = c.edit_refusal_line-l.ensures in
    rw (← c.number.ensures)
    (line_printed c.args.output.now c.edit_refusal_line-l.result (0x21 ∷ c.number.result ∷ [])
    (ap (λ (x : Line). x.count) e) (ap (λ (x : Line). take x.count x.numbers) e) (omega arith) c.if-output-lt-LINE_SIZE.false (c.put_line.ensures.value, c.put_line.ensures.out_after))
