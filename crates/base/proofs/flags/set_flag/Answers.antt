-- `base::flags::set_flag` meets its contract: past the end a store changes nothing.
use mathlib.Core.Path.{sym}
use lib.Seq.{set_out}
use Rattle.base.proofs.flags.set_flag.Goals as goal

pub returns-else-at-flags : goal.returns-else-at-flags
returns-else-at-flags c = sym (set_out _ _ _ c.if-at-flags.false)
