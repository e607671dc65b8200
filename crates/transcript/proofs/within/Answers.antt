-- `transcript::within` meets its contract.
use Rattle.transcript.proofs.ListParts.{counted}
use Rattle.transcript.proofs.within.Goals as goal

pub returns : goal.returns
returns c = rw c.min.ensures (counted c.args.n c.args.bytes.now)
