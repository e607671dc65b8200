-- The result of the code's search, as the definitions have it.
use Rattle.std.specs.Prelude.{Option, Some, None}
use Rattle.std.proofs.Math.Option as maybe
use Rattle.blocked.specs.declared.Blocked.{Blocked}
use Rattle.blocked.specs.Blocks.{Block}

abbrev pub block_view : Option Blocked → maybe.Option Block
block_view None = maybe.none
block_view (Some b) = maybe.some (record { number = b.number; edge = b.edge })
