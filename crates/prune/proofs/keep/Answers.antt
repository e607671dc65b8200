-- `prune::keep` meets its contract.
use mathlib.Core.Path.{refl, ◌∙◌}
use Rattle.program.specs.Decoded.{program_of}
use Rattle.program.proofs.ProgramRanged.{ranged}
use Rattle.prune.proofs.KeptExact.{cleared_sound}
use Rattle.prune.proofs.keep.Goals as goal

pub next_states-answers-requires : goal.next_states-answers-requires
next_states-answers-requires c =
    ranged (program_of c.args.p) c.requires.well_formed.0

pub keep_supported-requires : goal.keep_supported-requires
keep_supported-requires c =
    let z = c.requires in
    record { usable = (z.well_formed.1.usable, z.well_formed.1.admitted, z.well_formed.0.edges_ascend); marks_len = (z.marks_len.0, c.keep_starts.auto.kept ∙ c.clear.auto.flags ∙ z.marks_len.1) }

pub returns : goal.returns
returns c =
    let p = program_of c.args.p in
    let s = cleared_sound _ c.requires.well_formed.1.usable p c.args.marks.now c.clear.ensures c.requires.marks_len.1 in
    c.keep_supported.ensures p c.requires.well_formed.0 c.requires.well_formed.1 refl c.next_states-answers.ensures
    (c.keep_starts.ensures p c.initial_flags-initial.ensures s)
