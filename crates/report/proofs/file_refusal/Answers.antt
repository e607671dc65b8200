-- `report::file_refusal` meets its contract.
use mathlib.Core.Path.{◌≡◌, ap}
use mathlib.Core.List.{[], ◌∷◌}
use Prim.Native.Nat.{◌/◌, ◌%◌}
use native.Mathlib.Omega.{arith}
use lib.ListN.{take}
use Rattle.text.specs.declared.Line.{Line}
use Rattle.report.proofs.BlocksPut.{no_line_printed, line_printed}
use Rattle.report.proofs.file_refusal.Goals as goal

pub returns-then-output-lt-LINE_SIZE : goal.returns-then-output-lt-LINE_SIZE
returns-then-output-lt-LINE_SIZE c = no_line_printed _ _ c.if-output-lt-LINE_SIZE.true

pub put_line-requires : goal.put_line-requires
put_line-requires c =
    let n : c.file_refusal_line-l.result.count ≡ 4 = ap (λ (l : Line). l.count) c.file_refusal_line-l.ensures in
    omega arith

pub returns-else-output-lt-LINE_SIZE : goal.returns-else-output-lt-LINE_SIZE
returns-else-output-lt-LINE_SIZE c =
    let e = c.file_refusal_line-l.ensures in
    let line = c.args.refused.line in
    rw (← c.number.ensures)
    (line_printed c.args.output.now c.file_refusal_line-l.result (0x21 ∷ c.number.result ∷ line % 65536 / 256 ∷ line % 65536 % 256 ∷ [])
    (ap (λ (x : Line). x.count) e) (ap (λ (x : Line). take x.count x.numbers) e) (omega arith) c.if-output-lt-LINE_SIZE.false (c.put_line.ensures.value, c.put_line.ensures.out_after))
