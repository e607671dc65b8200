-- A kind that the code has is no unknown one.
use mathlib.Core.Path.{◌≡◌, refl}
use mathlib.Core.Bool.{false}
use lib.Dec.{eqb}
use Rattle.frames.specs.declared.FrameKind.{FrameKind}
use Rattle.frames.specs.declared.FrameKind.TheVariants.{Header, Routine, Edge, Transition, Row, Initial, Rejecting, End}
use Rattle.frames.specs.Kinds.{place}

-- 0 is the place of no kind
pub is_known : (k : FrameKind) → eqb (place k) 0 ≡ false
is_known Header = refl
is_known Routine = refl
is_known Edge = refl
is_known Transition = refl
is_known Row = refl
is_known Initial = refl
is_known Rejecting = refl
is_known End = refl
