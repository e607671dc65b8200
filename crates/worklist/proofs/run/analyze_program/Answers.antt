-- `worklist::run::analyze_program` meets its contract: what is followed is the opened worklist.
use Rattle.worklist.proofs.AnalysisBegun.{start_shape, analyzed}
use Rattle.worklist.proofs.AnalysisLimited.{ended_is}
use Rattle.program.specs.Decoded.{program_of}
use Rattle.worklist.proofs.run.analyze_program.Goals as goal

pub follow_program-iterations-requires : goal.follow_program-iterations-requires
follow_program-iterations-requires c =
    let b = c.begin in
    let s = c.requires.1 in
    let shape = start_shape c.args.z s.usable s.admitted (program_of c.args.p) _ _ b.ensures in
    (c.requires.0, s, b.auto.pending, shape)

pub returns : goal.returns
returns c =
    let p = program_of c.args.p in
    let z = c.args.z in
    let limit = c.args.limit in
    let s = c.requires.1 in
    let followed = c.follow_program-iterations.ensures in
    let e = analyzed z s.usable s.admitted p _ _ c.begin.ensures limit _ _ followed in
    record {
      marks = e.0;
      iterations = e.1;
      ended = ended_is z s.usable p s.ranged limit _ e.2 c.is_done-ended.result c.is_done-ended.ensures;
    }
