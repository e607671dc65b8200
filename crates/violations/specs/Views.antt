-- The result of the code's search, as the definitions have it.
use Rattle.std.specs.Prelude.{Option, Some, None}
use Rattle.std.proofs.Math.Option as maybe

abbrev pub option_view : {T : Type 0} → Option T → maybe.Option T
option_view None = maybe.none
option_view (Some x) = maybe.some x
