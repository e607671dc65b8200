-- `worklist::run::is_done` meets its contract.
use Rattle.worklist.proofs.LowestFound.{first_lowest, done_is}
use Rattle.words.specs.Words.{flags_of}
use Rattle.words.proofs.FlagsAsked.{flags_length}
use native.Mathlib.Omega.{arith}
use Rattle.worklist.proofs.run.is_done.Goals as goal

pub returns : goal.returns
returns c =
    let w = c.args.pending.now in
    let room = flags_length w in
    done_is _ c.args.size c.first_set.result
    (first_lowest (flags_of w) c.args.size _ (omega (arith, room, c.requires.0, c.requires.1)) c.first_set.ensures)
