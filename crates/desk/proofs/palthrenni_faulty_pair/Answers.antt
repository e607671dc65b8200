use Rattle.std.proofs.Common.{refl, ap, ◌∙◌}
use Rattle.program.specs.Reading.{Outcome, refusal, refusal_line}
use Rattle.answers.proofs.NumbersFit.{read_fits}
use Rattle.desk.specs.Entries.{pairing}
use Rattle.desk.proofs.BackByParts.{same_back, same_pairing, read_verdict}
use Rattle.desk.proofs.palthrenni_faulty_pair.Goals as goal

pub verdict_numbers-numbers-requires : goal.verdict_numbers-numbers-requires
verdict_numbers-numbers-requires c = rw (read_verdict _ _ c.read-read.ensures) (read_fits _)

pub returns : goal.returns
returns c =
    let e = c.read-read.ensures in
    let t = read_verdict c.args.file.now _ e in
    let n = c.verdict_numbers-numbers.ensures in
    let k = c.pair_numbers-told.ensures in
    same_back (n.0 ∙ ap refusal t) (n.1 ∙ ap refusal_line t) (same_pairing k.0 k.1 ∙ ap (λ (o : Outcome). pairing o.pair) e) refl refl refl refl
