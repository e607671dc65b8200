-- `roots::cut::cut_to_live` meets its contract.
use Rattle.program.specs.Decoded.{program_of}
use Rattle.roots.proofs.RootsOccur.{cut_shows}
use Rattle.roots.proofs.cut.cut_to_live.Goals as goal

pub returns : goal.returns
returns c =
    let e = c.cut.ensures in
    let live = c.live_roots-roots in
    cut_shows c.args.z c.requires.1.usable c.requires.1.admitted (program_of c.args.p) c.args.marks.now
    live.result.flags _ live.ensures e
