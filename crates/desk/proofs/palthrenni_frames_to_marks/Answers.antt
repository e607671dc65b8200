use Rattle.desk.proofs.BackByParts.{same_back, same_size}
use Rattle.answers.proofs.NumbersFit.{move_fits}
use Rattle.saved.specs.Answers.{back}
use mathlib.Core.Path.{refl}
use Rattle.desk.proofs.palthrenni_frames_to_marks.Goals as goal

pub write_numbers-numbers-requires : goal.write_numbers-numbers-requires
write_numbers-numbers-requires c = rw c.frames_to_marks-a.ensures.0 (move_fits back _ _ _ _)

pub returns : goal.returns
returns c =
    let e = c.frames_to_marks-a.ensures in
    let n = rw e.0 at c.write_numbers-numbers.ensures in
    same_back n.0 n.1 (same_size 0 n.2) refl e.1 e.2 refl
