-- `analysis::own::is_own` meets its contract.
use lib.Pointwise.{bytes_decides}
use Rattle.program.specs.Decoded.{program_of}
use Rattle.reach.proofs.MarksCopied.{cleared_is}
use Rattle.analysis.specs.Answers.{same}
use Rattle.analysis.proofs.AnswersByChecks.{same_decides}
use Rattle.analysis.proofs.LimitDecides.{own_sized, own_marks}
use mathlib.Core.Path.{sym, ap, ◌∙◌}
use Rattle.program.specs.Chosen.{sizes_of, numbers}
use mathlib.Core.List.{List}
use Prim.Native.Nat.{ℕ}
use Rattle.analysis.proofs.own.is_own.Goals as goal

pub returns : goal.returns
returns c =
    let e = c.sizes_of-z.ensures in
    let own = own_marks (program_of c.args.p) c.requires.0 e c.enough_iterations.ensures c.analyze_program-stop.ensures in (
      c.eq-own.ensures ∙ same_decides _ _ _ (bytes_decides c.args.marks.now _) ∙ ap (λ (l : List ℕ). same c.args.marks.now l) own,
      cleared_is (sizes_of (program_of c.args.p)) c.clear.ensures (c.analyze_program-stop.auto.marks ∙ c.requires.1),
    )

pub analyze_program-stop-requires : goal.analyze_program-stop-requires
analyze_program-stop-requires c =
    let e = c.sizes_of-z.ensures in
    (c.requires.0, own_sized (program_of c.args.p) e c.requires.0, c.requires.1 ∙ ap numbers (sym e))
