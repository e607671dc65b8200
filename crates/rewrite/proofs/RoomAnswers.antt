-- What an exchange needs, by what was read of its text.
use mathlib.Core.Path.{◌≡◌, refl, ap, ◌∙◌}
use mathlib.Core.Bool.{Bool, true, false, cond}
use mathlib.Core.List.{List}
use Prim.Native.Nat.{ℕ}
use lib.Dec.{eqb}
use Rattle.program.specs.Program.{Program}
use Rattle.program.specs.Reading.{Outcome, read_file}
use Rattle.program.specs.Checks.{first_met}
use Rattle.exchange.specs.Changes.{Exchange, step, whole, ChangeRead, Read, Refused}
use Rattle.exchange_text.specs.ExchangeText.{text_lines, exchange_rows, exchange_in, exchange_unless, exchange_from, wanted_exchange}
use Rattle.rewrite.specs.RoomAnswers.{RoomAnswer}
use Rattle.rewrite.specs.RoomAnswers as room
use Rattle.rewrite.specs.Room.{room_of, room_unless, room_wanted, room_by, room_answer}

-- by the change that was read; a text never says an edit
abbrev by_read : Program → ChangeRead → RoomAnswer
by_read p (Read (whole x)) = room_of x p
by_read p (Read (step e)) = room.Refused 0 0
by_read p (Refused n) = room.Refused n 0

by_number : (p : Program) (n : ℕ) (x : Exchange) → by_read p (exchange_unless n x) ≡ room_unless n x p
by_number p n x = go (eqb n 0)
  where
    go : (t : Bool) → by_read p (cond t (Read (whole x)) (Refused n)) ≡ cond t (room_of x p) (room.Refused n 0)
    go true = refl
    go false = refl

module _ (p : Program) (text : List ℕ) where
  by_text : {w : ChangeRead} → w ≡ wanted_exchange p text → by_read p w ≡ room_wanted p text
  unfolding wanted_exchange exchange_from room_wanted
  by_text h =
      let ls = text_lines text in
      ap (by_read p) h ∙ by_number p (first_met (exchange_rows p ls)) (exchange_in ls)

  pub room_read : {x : Exchange} → Read (whole x) ≡ wanted_exchange p text → room_of x p ≡ room_wanted p text
  room_read h = by_text h

  pub room_refused : {n : ℕ} → Refused n ≡ wanted_exchange p text → room.Refused n 0 ≡ room_wanted p text
  room_refused h = by_text h

-- by what was read of the file
pub room_answered : (file text : List ℕ) {o : Outcome} → o ≡ read_file file → room_by o.verdict o.program text ≡ room_answer file text
unfolding room_answer
room_answered file text e = ap (λ (q : Outcome). room_by q.verdict q.program text) e
