-- The kinds of frames as the code has them, and the places in the table of kinds that they stand for.
use Rattle.std.specs.Prelude.{ℕ, Option, Some, None}
use Rattle.frames.specs.declared.FrameKind.{FrameKind}
use Rattle.frames.specs.declared.FrameKind.TheVariants.{Header, Routine, Edge, Transition, Row, Initial, Rejecting, End}

-- a kind's place in the table of kinds, from 1
abbrev pub place : FrameKind → ℕ
place Header = 1
place Routine = 2
place Edge = 3
place Transition = 4
place Row = 5
place Initial = 6
place Rejecting = 7
place End = 8

-- the place of a line's kind, or 0 for an unknown kind
abbrev pub place_of : Option FrameKind → ℕ
place_of None = 0
place_of (Some k) = place k
