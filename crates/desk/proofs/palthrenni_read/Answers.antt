use Rattle.std.proofs.Common.{refl}
use Rattle.answers.proofs.NumbersFit.{read_fits}
use Rattle.desk.proofs.BackByParts.{same_back, read_verdict}
use Rattle.desk.proofs.palthrenni_read.Goals as goal

pub verdict_numbers-numbers-requires : goal.verdict_numbers-numbers-requires
verdict_numbers-numbers-requires c = rw (read_verdict _ _ c.read-read.ensures) (read_fits _)

pub returns : goal.returns
returns c =
    let n = rw (read_verdict c.args.file.now _ c.read-read.ensures) at c.verdict_numbers-numbers.ensures in
    same_back n.0 n.1 refl refl refl refl refl
