-- What is answered of the room that an exchange needs: the largest count of nodes of the new program, the length of its
-- marks and that of the working buffer; or a number is refused, at a line.
use Rattle.std.specs.Prelude.{ℕ, Result, Ok, Err}
use Rattle.program.specs.Refusals.{number}
use Rattle.program.specs.declared.refusal.RefusedAt.{RefusedAt}
use Rattle.rewrite.specs.declared.ExchangeRoom.{ExchangeRoom}

pub data RoomAnswer : Type 0 where
  Needs : ℕ → ℕ → ℕ → RoomAnswer
  Refused : ℕ → ℕ → RoomAnswer

-- the code's answer: the room, or the refusal
abbrev pub room_answer_by : Result ExchangeRoom RefusedAt → RoomAnswer
room_answer_by (Ok r) = Needs r.nodes r.marks r.work
room_answer_by (Err e) = Refused (number e.refusal) e.line
