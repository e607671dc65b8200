-- What a line is refused for, in terms of what the function that judges one line is handed. The reader proves that it is
-- what the format's `judge` says.
use Rattle.std.specs.Prelude.{ℕ, not, eqb}
use Rattle.text.specs.declared.Line.{Line}
use Rattle.program.specs.Frames.{size, kind}
use Rattle.program.specs.Reading.{ordered, ranged, full, miscounted, lowest}
use Rattle.ranges.specs.Limits.{limits_of}
use Rattle.ranges.specs.declared.Limits.{Limits}
use Rattle.order.specs.declared.Counts.{Counts}

-- the judgement of a line, by counts
abbrev pub judged_by : ℕ → Counts → Limits → Line → ℕ
judged_by last n h l =
    lowest (eqb l.count 0) (eqb (kind l) 0) (not (eqb l.count (size h.states (kind l))))
    (not (ordered last n.frames h.routines n.nodes n.transitions (kind l) l))
    (not (ranged (limits_of h) (kind l) l))
    (full n.edges n.transitions n.rows (kind l)) (miscounted n.frames (kind l) l)
