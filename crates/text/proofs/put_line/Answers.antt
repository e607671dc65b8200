use Rattle.std.proofs.Common.{◌≡◌, [], ◌∷◌, length, refl, ◌∙◌, arith, rules}
use Rattle.text.specs.Hex.{hex}
use Rattle.text.specs.Lines.{max_numbers}
use Rattle.text.proofs.NumbersStored.{one_more, after_hex}
use Rattle.text.proofs.put_line.Goals as goal

pub loop-k-init : goal.loop-k-init
unfolding hex
loop-k-init c = (refl, refl)

pub loop-k-preserved : goal.loop-k-preserved
loop-k-preserved c =
    let l = c.args.l in
    let n : length l.numbers ≡ max_numbers = search rules in
    let w = c.loop-k.invariant in (
      c.put_number.ensures ∙ rw w.0 (one_more _ l.numbers _ c.loop-k.k (search rules)),
      c.put_number.auto.out ∙ w.1,
    )

pub returns-clause-out_after : goal.returns-clause-out_after
returns-clause-out_after c =
    let l = c.args.l in
    let n : length l.numbers ≡ max_numbers = search rules in
    let e : c.loop-k.k ≡ l.count = omega arith in
    rw c.loop-k.invariant.0 (rw e (after_hex _ l.numbers _ l.count (10 ∷ []) (search rules)))
