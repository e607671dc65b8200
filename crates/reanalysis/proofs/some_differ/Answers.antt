-- `reanalysis::some_differ` meets its contract.
use Prim.Native.Nat.{ℕ}
use borrow.Author.Tests.{tests}
use Rattle.std.proofs.Common.{rules}
use Rattle.std.proofs.lemmas.Iterator.{YieldsList-from_slice, cases_from_any}
use Rattle.program.specs.Decoded.{edge_of}
use Rattle.words.specs.Words.{flags_of}
use Rattle.reanalysis.specs.Parts.{DifferingEdge}
use Rattle.reanalysis.proofs.ReanalysisDecided.{any_item, says_by}
use Rattle.reanalysis.proofs.some_differ.Goals as goal

pub returns : goal.returns
returns c =
    let a = c.args in
    let P = λ (k : ℕ). DifferingEdge a.z a.members.now (flags_of a.before.now) a.marks.now (edge_of k) in
    says_by
    (λ d. record { at = d.at; below = d.below; differing = d.holds })
    (λ d. record { at = d.at; below = d.below; holds = d.differing })
    (any_item P a.keys.now c.any.result
    (cases_from_any _ _ c.any.result P (λ k. ¬ (P k)) c.any.ensures.ran
    (YieldsList-from_slice a.keys.now (search rules))
    (λ x q k. search (rules, tests)) (λ x q k. search (rules, tests))))
