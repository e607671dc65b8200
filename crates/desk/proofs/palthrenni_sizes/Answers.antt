use Rattle.std.proofs.Common.{refl, ap, ◌∙◌}
use Rattle.program.specs.Chosen.{sizes_of, numbers}
use Rattle.program.specs.Reading.{Outcome, refusal, refusal_line}
use Rattle.answers.specs.Told.{told}
use Rattle.answers.proofs.NumbersFit.{read_fits}
use Rattle.desk.specs.Entries.{Values, sizing}
use Rattle.desk.proofs.BackByParts.{same_back, same_sizing, read_verdict}
use Rattle.desk.proofs.palthrenni_sizes.Goals as goal

abbrev told_of : Outcome → Values
told_of o = let z = sizes_of o.program in sizing (told o.verdict z.routines) (told o.verdict z.nodes) (told o.verdict z.states) (told o.verdict (numbers z)) 0

pub verdict_numbers-numbers-requires : goal.verdict_numbers-numbers-requires
verdict_numbers-numbers-requires c = rw (read_verdict _ _ c.read-read.ensures) (read_fits _)

pub returns : goal.returns
returns c =
    let t = read_verdict c.args.file.now _ c.read-read.ensures in
    let n = c.verdict_numbers-numbers.ensures in
    let k = c.sizes_numbers-told.ensures in
    same_back (n.0 ∙ ap refusal t) (n.1 ∙ ap refusal_line t)
    (same_sizing k.0 k.1 k.2 k.3 refl ∙ ap told_of c.read-read.ensures) refl refl refl refl
