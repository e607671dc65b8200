-- `reanalysis::summaries_differ` meets its contract.
use Prim.Native.Nat.{ℕ}
use native.Mathlib.Omega.{arith}
use borrow.Author.Tests.{tests}
use Rattle.std.proofs.Common.{rules}
use Rattle.std.proofs.lemmas.Iterator.{YieldsList-from_range, cases_from_any}
use Rattle.words.specs.Words.{flags_of}
use Rattle.reanalysis.specs.Parts.{DiffersWith}
use Rattle.reanalysis.proofs.ReanalysisDecided.{any_number, says_by, found_differs, differs_with}
use Rattle.reanalysis.proofs.summaries_differ.Goals as goal

pub returns : goal.returns
returns c =
    let a = c.args in
    let before = flags_of a.before.now in
    let P = λ (r : ℕ). DiffersWith a.z before a.marks.now a.g r in
    says_by
    (λ d. found_differs c.requires.0 before a.marks.now a.g c.requires.1 d.at d.below d.holds)
    (differs_with c.requires.0 before a.marks.now a.g c.requires.1)
    (any_number P a.z.states c.any.result
    (cases_from_any _ _ c.any.result P (λ r. ¬ (P r)) c.any.ensures.ran
    (YieldsList-from_range 0 a.z.states a.z.states (search rules) (omega arith))
    (λ x q k. search (rules, tests)) (λ x q k. search (rules, tests))))
