-- What an exchange has to be lent, which a call can ask for beforehand.
use Rattle.std.specs.Prelude.{ℕ, cond, List, eqb}
use Rattle.program.specs.Program.{Program}
use Rattle.program.specs.Chosen.{sizes_of}
use Rattle.program.specs.Reading.{read_file}
use Rattle.program.specs.Checks.{first_met}
use Rattle.program.specs.Verdicts.{Verdict}
use Rattle.program.specs.Verdicts as verdict
use Rattle.exchange.specs.Changes.{Exchange}
use Rattle.exchange_text.specs.ExchangeText.{text_lines, exchange_rows, exchange_in}
use Rattle.exchange.specs.Lengths.{sizes_after, lengths_of}
use Rattle.rewrite.specs.RoomAnswers.{RoomAnswer}
use Rattle.rewrite.specs.RoomAnswers as room

-- of an exchange that is not refused: the largest count of nodes (paper: P) of the new program, the length of its
-- marks, and that of the working buffer, the longer of the old and the new one
abbrev pub room_of : Exchange → Program → RoomAnswer
room_of x p =
    let lengths = lengths_of (sizes_of p) (sizes_after x p) in
    room.Needs (sizes_after x p).nodes lengths.second lengths.work

-- the first refusal of the text (12, 13, 21, 16, 23), or what its exchange needs
abbrev pub room_unless : ℕ → Exchange → Program → RoomAnswer
room_unless n x p = cond (eqb n 0) (room_of x p) (room.Refused n 0)

unfoldable pub room_wanted : Program → List ℕ → RoomAnswer
room_wanted p text =
    let ls = text_lines text in room_unless (first_met (exchange_rows p ls)) (exchange_in ls) p

-- first the file's own
abbrev pub room_by : Verdict → Program → List ℕ → RoomAnswer
room_by verdict.Accepted p text = room_wanted p text
room_by (verdict.Refused n line) p text = room.Refused n line

unfoldable pub room_answer : List ℕ → List ℕ → RoomAnswer
room_answer file text = room_by (read_file file).verdict (read_file file).program text

-- ---- the numbers of the answer; 0 where there is none

abbrev pub room_refusal : RoomAnswer → ℕ
room_refusal (room.Needs nodes marks work) = 0
room_refusal (room.Refused n line) = n

abbrev pub room_line : RoomAnswer → ℕ
room_line (room.Needs nodes marks work) = 0
room_line (room.Refused n line) = line

abbrev pub room_nodes : RoomAnswer → ℕ
room_nodes (room.Needs nodes marks work) = nodes
room_nodes (room.Refused n line) = 0

abbrev pub room_marks : RoomAnswer → ℕ
room_marks (room.Needs nodes marks work) = marks
room_marks (room.Refused n line) = 0

abbrev pub room_work : RoomAnswer → ℕ
room_work (room.Needs nodes marks work) = work
room_work (room.Refused n line) = 0
