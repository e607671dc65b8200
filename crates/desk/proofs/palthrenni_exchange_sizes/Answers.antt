use Rattle.desk.proofs.BackByParts.{same_back, same_sizing}
use Rattle.answers.proofs.NumbersFit.{room_fits}
use mathlib.Core.Path.{refl}
use Rattle.desk.proofs.palthrenni_exchange_sizes.Goals as goal

pub room_numbers-numbers-requires : goal.room_numbers-numbers-requires
room_numbers-numbers-requires c = rw c.exchange_room-a.ensures (room_fits _ _)

pub returns : goal.returns
returns c =
    let n = rw c.exchange_room-a.ensures at c.room_numbers-numbers.ensures in
    same_back n.0 n.1 (same_sizing refl n.2 refl n.3 n.4) refl refl refl refl
