-- `transcript::hold` meets its contract.
use Rattle.transcript.proofs.ListParts.{copied}
use lib.ListN.{replicate, take}
use Rattle.transcript.proofs.hold.Goals as goal

pub returns : goal.returns
returns c =
    let a = c.args in
    let k = c.copy-used.ensures in
    λ i. record { file = copied a.file.now (replicate 16384 0) k.0 k.1 i; marks = take a.size a.marks }
